-- The patch that is made.
use Rattle.std.proofs.Common.{◌≡◌, ℕ, ◌<◌, ◌≤◌, not, ◌&&◌, eqb, List, [], ◌∷◌, ◌++◌, append_assoc, length, map, flat_map, filter, sym, ap, ◌∙◌, refl, Option, None, Ok, Err}
use Rattle.std.specs.List.{list_all, list_any}
use Rattle.std.specs.Cmp.{IsTotalOrder, nat_cmp_total}
use Rattle.std.specs.FinMap.{IsAntisymmetric}
use Rattle.std.specs.List.Sorted.{IsPermutation, IsSorted}
use Rattle.std.specs.Option.{option_or}
use Rattle.std.proofs.lemmas.Cmp.{on_total, then_total}
use Rattle.std.proofs.lemmas.List.Sorted.{length_permutation}
use Rattle.std.proofs.lemmas.Map.Lookups.{exact_pairs, exact_unsigned}
use Rattle.std.specs.Ordering.{nat_cmp}
use Rattle.oemm_limits.specs.declared.TheConstants.{MOST_ITEMS}
use Rattle.oemm_lists.specs.Ascending.{in_order}
use Rattle.oemm_octree.specs.Leaves.{is_one_of}
use Rattle.mesh_data.specs.declared.geometry.Tri.{Tri}
use Rattle.mesh_data.specs.Triangles.{corners, tri_cmp}
use Rattle.mesh_sheets.specs.Assembled.{assembled, by_name, faces_of, has_name, mixed_cmp}
use Rattle.mesh_sheets.proofs.Filters.{any_map}
use Rattle.sheet_data.specs.Summed.{SummedVertex}
use Rattle.sheet_data.specs.declared.patches.Mixed.{Mixed}
use Rattle.sheet_data.specs.declared.patches.Patch.{Patch}
use Rattle.sheet_data.specs.declared.sheets.LeafSheet.{LeafSheet}
use Rattle.triangle_lists.proofs.Orders.{tri_cmp_total, tri_cmp-IsAntisymmetric}
use Rattle.triangle_lists.proofs.Sorting.{IsPermutation-in_order, in_order_from_sort}
use Rattle.patch_assembly.specs.declared.clash.Clash.{Clash}
use Rattle.patch_assembly.specs.declared.clash.Clash.TheVariants.{Many}
use Rattle.patch_assembly.specs.Clashes.{clash_in, faces_in, if_above, made, own_clash, unless}
use Rattle.patch_assembly.proofs.Vertices.{if_not_above, name, when_above}
use Rattle.patch_assembly.proofs.Sorted.{near_list}

-- ---- the order of kept faces

mixed_cmp_total : IsTotalOrder mixed_cmp
mixed_cmp_total = then_total (on_total (λ x. x.tri) tri_cmp_total) (on_total (λ x. x.leaf) nat_cmp_total)

mixed_cmp-IsAntisymmetric : IsAntisymmetric mixed_cmp
mixed_cmp-IsAntisymmetric x y h =
    ap (λ (p : Tri × ℕ). let it : Mixed = record { leaf = p.1; tri = p.0 } in it)
    (exact_pairs tri_cmp nat_cmp tri_cmp-IsAntisymmetric exact_unsigned (x.tri, x.leaf) (y.tri, y.leaf) h)

pub kept_from_sort : (xs ys : List Mixed) → IsPermutation xs ys → IsSorted mixed_cmp ys → ys ≡ in_order mixed_cmp xs
kept_from_sort xs ys moved sorted = in_order_from_sort mixed_cmp_total mixed_cmp-IsAntisymmetric xs ys moved sorted

flat_map-append : {X Y : Type 0} (f : X → List Y) (xs ys : List X) → flat_map f (xs ++ ys) ≡ flat_map f xs ++ flat_map f ys
flat_map-append f [] ys = refl
flat_map-append f (x ∷ xs) ys =
    ap (λ zs. f x ++ zs) (flat_map-append f xs ys) ∙ sym (append_assoc (f x) (flat_map f xs) (flat_map f ys))

-- the faces of the one sheets are put behind nothing, and those of the others behind these
pub two_parts : (inner outer : List LeafSheet) (none some all : List Mixed) → none ≡ []
    → some ≡ none ++ flat_map faces_of inner → all ≡ some ++ flat_map faces_of outer
    → all ≡ flat_map faces_of (inner ++ outer)
two_parts inner outer none some all is_none is_some is_all =
    is_all
    ∙ ap (λ (xs : List Mixed). xs ++ flat_map faces_of outer)
    (is_some ∙ ap (λ (xs : List Mixed). xs ++ flat_map faces_of inner) is_none)
    ∙ sym (flat_map-append faces_of inner outer)

-- ---- the patch

module _ (core : List ℕ) (inner outer : List LeafSheet) (vs : List SummedVertex) (held : List ℕ) (kept : List Mixed)
    (own : own_clash inner ≡ None) (vertices : vs ≡ by_name (flat_map (λ s. s.vertices) inner))
    (names : held ≡ map name vs) (sorted : kept ≡ in_order mixed_cmp (flat_map faces_of (inner ++ outer))) where
  count_is : length kept ≡ faces_in (inner ++ outer)
  count_is =
      ap (λ (xs : List Mixed). length xs) sorted
      ∙ length_permutation (flat_map faces_of (inner ++ outer)) (in_order mixed_cmp (flat_map faces_of (inner ++ outer)))
      (IsPermutation-in_order mixed_cmp (flat_map faces_of (inner ++ outer)))

  by_faces : clash_in inner outer ≡ if_above MOST_ITEMS Many (length kept)
  by_faces =
      ap (λ (o : Option Clash). option_or o (if_above MOST_ITEMS Many (faces_in (inner ++ outer)))) own
      ∙ ap (if_above MOST_ITEMS Many) (sym count_is)

  pub too_many : MOST_ITEMS < length kept → made core inner outer ≡ Err (Many (length kept))
  too_many lt = ap (unless (assembled core inner outer)) (by_faces ∙ when_above MOST_ITEMS Many (length kept) lt)

  held_is : (v : ℕ) → is_one_of held v ≡ has_name (by_name (flat_map (λ s. s.vertices) inner)) v
  held_is v =
      ap (λ (ns : List ℕ). is_one_of ns v) names
      ∙ any_map (λ m. eqb v m) name vs
      ∙ ap (λ (xs : List SummedVertex). has_name xs v) vertices

  is_assembled : (p : Patch) → p.vertices ≡ vs
      → p.whole ≡ map (λ x. x.tri) (filter (λ x. list_all (is_one_of held) (corners x.tri)) kept)
      → p.mixed ≡ filter (λ x. list_any (is_one_of held) (corners x.tri) && not (list_all (is_one_of held) (corners x.tri))) kept
      → p.near ≡ map (near_list core) inner
      → p ≡ assembled core inner outer
  unfolding assembled
  is_assembled p is_vertices is_whole is_mixed is_near =
      let test : is_one_of held ≡ has_name (by_name (flat_map (λ s. s.vertices) inner)) = λ i v. held_is v i in
      let whole = is_whole ∙ (λ i. map (λ (x : Mixed). x.tri) (filter (λ (x : Mixed). list_all (test i) (corners x.tri)) (sorted i))) in
      let mixed = is_mixed ∙ (λ i. filter (λ (x : Mixed). list_any (test i) (corners x.tri) && not (list_all (test i) (corners x.tri))) (sorted i)) in
      λ i. record { vertices = (is_vertices ∙ vertices) i; whole = whole i; mixed = mixed i; near = is_near i }

  pub is_made : length kept ≤ MOST_ITEMS → (p : Patch) → p.vertices ≡ vs
      → p.whole ≡ map (λ x. x.tri) (filter (λ x. list_all (is_one_of held) (corners x.tri)) kept)
      → p.mixed ≡ filter (λ x. list_any (is_one_of held) (corners x.tri) && not (list_all (is_one_of held) (corners x.tri))) kept
      → p.near ≡ map (near_list core) inner
      → made core inner outer ≡ Ok p
  is_made le p is_vertices is_whole is_mixed is_near =
      ap (unless (assembled core inner outer)) (by_faces ∙ if_not_above MOST_ITEMS Many (length kept) le)
      ∙ ap Ok (sym (is_assembled p is_vertices is_whole is_mixed is_near))
