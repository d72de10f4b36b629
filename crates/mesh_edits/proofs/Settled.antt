-- The parts of a fragment whose patch is well formed.
use Rattle.std.proofs.Common.{◌≡◌, ℕ, Bool, true, false, cond, ◌&&◌, ◌||◌, eqb, List, [], ◌∷◌, ◌++◌, map, sym, ap, ◌∙◌, refl, subst}
use Rattle.std.proofs.lemmas.Bool.{eqb-true, eq-eqb, ne_eqb, false≢true}
use Rattle.std.proofs.lemmas.List.{append-nil}
use Rattle.std.proofs.lemmas.List.Elements.{filter-append, recursion_from_All}
use Rattle.std.proofs.lemmas.List.Sorted.{list_any-IsPermutation}
use Rattle.std.specs.List.{AllByRecursion, filter, list_all, list_any}
use Rattle.oemm_lists.specs.Ascending.{in_order}
use Rattle.oemm_lists.specs.Numbers.{among}
use Rattle.oemm_octree.specs.declared.cells.Cell.{Cell}
use Rattle.mesh_data.specs.declared.geometry.Tri.{Tri}
use Rattle.mesh_data.specs.Manifold.{is_corner}
use Rattle.mesh_data.specs.RingChanges.{IsOriented}
use Rattle.mesh_data.specs.Triangles.{IsProper, corners, has_corner, tri_cmp, turned}
use Rattle.triangle_lists.proofs.Filters.{filter-in_order}
use Rattle.triangle_lists.proofs.Orders.{tri_cmp_total, tri_cmp-IsAntisymmetric}
use Rattle.triangle_lists.proofs.Sorting.{IsPermutation-in_order, Rises-from_sorted}
use Rattle.half_edge.specs.Meshes.{Faced, is_held}
use Rattle.sheet_data.specs.declared.patches.Mixed.{Mixed}
use Rattle.sheet_data.specs.declared.patches.Patch.{Patch}
use Rattle.sheet_data.specs.Summed.{SummedVertex}
use Rattle.mesh_sheets.specs.Assembled.{has_name}
use Rattle.mesh_sheets.specs.Written.{patch_tris}
use Rattle.mesh_sheets.proofs.Filters.{in_order_already}
use Rattle.sheet_forms.specs.Formed.{IsPatchFor}
use Rattle.patch_edits.specs.PatchMesh.{mesh_of}
use Rattle.mesh_edits.specs.Faults.{names}
use Rattle.mesh_edits.specs.Fragments.{IsFragment, IsPatchOn, patch_by}

-- each corner of the triangle has a vertex
abbrev pub whole_by : List SummedVertex → Tri → Bool
whole_by vs t = list_all (has_name vs) (corners t)

none_pass : (p : Tri → Bool) (xs : List Mixed) → AllByRecursion (λ x. p x.tri ≡ false) xs → filter p (map (λ x. x.tri) xs) ≡ []
none_pass p [] all = refl
none_pass p (x ∷ xs) all = ap (λ b. cond b (x.tri ∷ filter p (map (λ x. x.tri) xs)) (filter p (map (λ x. x.tri) xs))) all.0 ∙ none_pass p xs all.1

all_pass : (p : Tri → Bool) (ts : List Tri) → AllByRecursion (λ t. p t ≡ true) ts → filter p ts ≡ ts
all_pass p [] all = refl
all_pass p (t ∷ ts) all = ap (λ b. cond b (t ∷ filter p ts) (filter p ts)) all.0 ∙ ap (λ (us : List Tri). t ∷ us) (all_pass p ts all.1)

module _ (cells : List Cell) (core : List ℕ) (q : Patch) (formed : IsPatchFor cells core q) where
  -- the whole triangles are those of the patch's mesh that have three vertices
  pub whole_told : filter (whole_by q.vertices) (mesh_of q).tris ≡ q.whole
  whole_told =
      let p = whole_by q.vertices in
      filter-in_order tri_cmp_total p (patch_tris q)
      ∙ ap (in_order tri_cmp) (filter-append p q.whole (map (λ x. x.tri) q.mixed)
      ∙ (λ i. all_pass p q.whole (recursion_from_All (λ t. p t ≡ true) q.whole formed.whole) i ++ none_pass p q.mixed (recursion_from_All (λ x. p x.tri ≡ false) q.mixed formed.not_whole) i)
      ∙ append-nil q.whole)
      ∙ in_order_already tri_cmp_total tri_cmp-IsAntisymmetric q.whole (Rises-from_sorted tri_cmp_total q.whole formed.whole_sorted)

  pub patch_settled : (ts : List Tri) → ts ≡ (mesh_of q).tris → patch_by q.vertices ts q.mixed q.near ≡ q
  patch_settled ts is =
      let whole : filter (whole_by q.vertices) ts ≡ q.whole = ap (filter (whole_by q.vertices)) is ∙ whole_told in
      λ i. record { vertices = q.vertices; whole = whole i; mixed = q.mixed; near = q.near }

  all_themselves : (ts : List Tri) → AllByRecursion (λ t. IsProper t × (turned t ≡ t)) ts → map turned ts ≡ ts
  all_themselves [] all = refl
  all_themselves (t ∷ ts) all = let here = all.0.1 in let rest = all_themselves ts all.1 in λ i. here i ∷ rest i

  -- the triangles of the patch, turned and in order, are those of its mesh
  pub tris_settled : in_order tri_cmp (map turned (patch_tris q)) ≡ (mesh_of q).tris
  tris_settled = ap (in_order tri_cmp) (all_themselves (patch_tris q) (recursion_from_All (λ t. IsProper t × (turned t ≡ t)) (patch_tris q) formed.proper))

-- the same where the core isn't told
pub patch_on : (area : List Cell) (q : Patch) (on : IsPatchOn area q) (ts : List Tri) → ts ≡ (mesh_of q).tris → patch_by q.vertices ts q.mixed q.near ≡ q
patch_on area q on ts is = patch_settled on.cells on.core q on.formed ts is

pub tris_on : (area : List Cell) (q : Patch) (on : IsPatchOn area q) → in_order tri_cmp (map turned (patch_tris q)) ≡ (mesh_of q).tris
tris_on area q on = tris_settled on.cells on.core q on.formed

-- the parts of a fragment with this patch
pub fragment_settled : (area : List Cell) (q : Patch) (on : IsPatchOn area q) (mesh : Faced) (rim : List ℕ) → mesh.tris ≡ (mesh_of q).tris
    → IsOriented mesh.tris → ((v : ℕ) → has_name q.vertices v ≡ true → is_corner mesh.tris v ≡ true → is_held mesh v ≡ true)
    → ((v : ℕ) → among v rim ≡ list_any (λ (x : Mixed). has_corner v x.tri) q.mixed) → IsFragment q.vertices mesh q.mixed rim q.near area
fragment_settled area q on mesh rim tris oriented held rim_has =
    let same = patch_on area q on mesh.tris tris in
    record {
      formed = subst (IsPatchOn area) (sym same) on;
      tris = tris ∙ ap (λ (r : Patch). (mesh_of r).tris) (sym same);
      oriented = oriented;
      held = held;
      rim_has = rim_has;
    }

-- the names of vertices, by two tests
eqb_turns : (m n : ℕ) → eqb m n ≡ eqb n m
eqb_turns m n =
    elim (eqb m n) as (λ b. eqb m n ≡ b → b ≡ eqb n m) [
      | true ↦ λ e. sym (eq-eqb n m (sym (eqb-true m n e)))
      | false ↦ λ e. sym (ne_eqb n m (λ same. false≢true (sym e ∙ eq-eqb m n (sym same))))
    ] refl

pub among_names : (v : ℕ) (vs : List SummedVertex) → among v (names vs) ≡ has_name vs v
among_names v [] = refl
among_names v (x ∷ vs) = λ i. eqb_turns x.name v i || among_names v vs i

-- what half-edges of a patch hold
pub held_settled : (q : Patch) (mesh : Faced) → mesh.tris ≡ (mesh_of q).tris → ((v : ℕ) → is_held mesh v ≡ (among v (names q.vertices) && is_corner (patch_tris q) v))
    → (v : ℕ) → has_name q.vertices v ≡ true → is_corner mesh.tris v ≡ true → is_held mesh v ≡ true
held_settled q mesh tris held v on corner =
    let ts = patch_tris q in
    let at : is_corner ts v ≡ true = list_any-IsPermutation (has_corner v) ts (in_order tri_cmp ts) (IsPermutation-in_order tri_cmp ts) ∙ ap (λ (us : List Tri). is_corner us v) (sym tris) ∙ corner in
    held v ∙ (λ i. (among_names v q.vertices ∙ on) i && at i)
