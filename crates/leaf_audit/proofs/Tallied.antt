-- What is kept of sheets when one more is put to them.
use Rattle.std.proofs.Common.{◌≡◌, ℕ, ◌+◌, ◌<◌, ◌≤◌, ◌^◌, ◌-◌, min, List, [], ◌∷◌, ◌++◌, length, map, flat_map, sym, ap, ◌∙◌, subst, arith, append-nil, append_assoc, get_or, take, length-append}
use Rattle.std.specs.List.{sum_by}
use Rattle.std.proofs.lemmas.Grind.{flat_map-append}
use Rattle.std.proofs.lemmas.List.{map-append, map_push, take_more}
use Rattle.std.proofs.lemmas.List.Concat.{flat_map-cons}
use Rattle.std.proofs.lemmas.List.Sums.{sum_by-append}
use Rattle.oemm_limits.specs.declared.TheConstants.{MOST_ITEMS}
use Rattle.mesh_data.specs.declared.geometry.Tri.{Tri}
use Rattle.sheet_data.specs.Summed.{SummedVertex}
use Rattle.sheet_data.specs.declared.sheets.LeafSheet.{LeafSheet}
use Rattle.patch_assembly.specs.Clashes.{names_in, planes_in}
use Rattle.leaf_audit.specs.Audits.{all_faces, vertices_in}
use Rattle.leaf_audit.specs.Tallies.{AreTimes, Tallies}
use Rattle.leaf_audit.specs.declared.tally.Tally.{Tally}

pub flat_more : {X Y : Type 0} (f : X → List Y) (xs : List X) (x : X) → flat_map f (xs ++ x ∷ []) ≡ flat_map f xs ++ f x
flat_more f xs x =
    flat_map-append f xs (x ∷ [])
    ∙ ap (λ ys. flat_map f xs ++ ys) (flat_map-cons f x [] ∙ append-nil (f x))

-- the name of one vertex more
pub names_step : (names : List ℕ) (vs : List SummedVertex) (i : ℕ) (x : SummedVertex) (n : ℕ) → n ≡ x.name → x ≡ get_or vs i x
    → i < length vs → (names ++ map (λ x. x.name) (take i vs)) ++ n ∷ [] ≡ names ++ map (λ x. x.name) (take (i + 1) vs)
names_step names vs i x n e at lt =
    append_assoc names (map (λ (x : SummedVertex). x.name) (take i vs)) (n ∷ [])
    ∙ ap (λ (ms : List ℕ). names ++ ms)
    (ap (λ (k : ℕ). map (λ (x : SummedVertex). x.name) (take i vs) ++ k ∷ []) (e ∙ ap (λ (x : SummedVertex). x.name) at)
    ∙ sym (map_push (λ (x : SummedVertex). x.name) (take i vs) (get_or vs i x))
    ∙ ap (map (λ (x : SummedVertex). x.name)) (sym (take_more vs i x lt)))

module _ (sheets : List LeafSheet) (s : LeafSheet) where
  vertices_more : flat_map (λ (x : LeafSheet). x.vertices) (sheets ++ s ∷ []) ≡ flat_map (λ (x : LeafSheet). x.vertices) sheets ++ s.vertices
  vertices_more = flat_more (λ (x : LeafSheet). x.vertices) sheets s

  names_more : names_in sheets ++ map (λ x. x.name) s.vertices ≡ names_in (sheets ++ s ∷ [])
  names_more =
      sym (map-append (λ (x : SummedVertex). x.name) (flat_map (λ (x : LeafSheet). x.vertices) sheets) s.vertices)
      ∙ ap (map (λ (x : SummedVertex). x.name)) (sym vertices_more)

  planes_more : planes_in (sheets ++ s ∷ []) ≡ planes_in sheets + sum_by (λ x. x.quad.planes) s.vertices
  planes_more =
      ap (sum_by (λ (x : SummedVertex). x.quad.planes)) vertices_more
      ∙ sum_by-append (λ (x : SummedVertex). x.quad.planes) (flat_map (λ (x : LeafSheet). x.vertices) sheets) s.vertices

  count_more : vertices_in (sheets ++ s ∷ []) ≡ vertices_in sheets + length s.vertices
  count_more =
      ap (λ (vs : List SummedVertex). length vs) vertices_more
      ∙ length-append (flat_map (λ (x : LeafSheet). x.vertices) sheets) s.vertices

  pub faces_more : all_faces (sheets ++ s ∷ []) ≡ all_faces sheets ++ s.faces
  faces_more = flat_more (λ (x : LeafSheet). x.faces) sheets s

  length_more : length (all_faces (sheets ++ s ∷ [])) ≡ length (all_faces sheets) + length s.faces
  length_more = ap (λ (ts : List Tri). length ts) faces_more ∙ length-append (all_faces sheets) s.faces

  pub tallies_more : (t new : Tally) → Tallies sheets t
      → ((names : List ℕ) → AreTimes t.times.items names → AreTimes new.times.items (names ++ map (λ x. x.name) s.vertices))
      → new.vertices ≡ t.vertices + length s.vertices
      → new.planes ≡ min (t.planes + sum_by (λ x. x.quad.planes) s.vertices) (2 ^ 64 - 1)
      → new.count ≡ t.count + length s.faces
      → (new.count ≤ MOST_ITEMS → new.faces.items ≡ t.faces.items ++ s.faces)
      → Tallies (sheets ++ s ∷ []) new
  tallies_more t new so_far times vertices planes count faces = record {
    times = subst (AreTimes new.times.items) names_more (times (names_in sheets) so_far.times);
    vertices = vertices ∙ ap (λ (n : ℕ). n + length s.vertices) so_far.vertices ∙ sym count_more;
    planes = omega (arith, planes, so_far.planes, planes_more);
    count = count ∙ ap (λ (n : ℕ). n + length s.faces) so_far.count ∙ sym length_more;
    faces = λ few.
        faces few
        ∙ ap (λ (ts : List Tri). ts ++ s.faces) (so_far.faces (omega (arith, few, count)))
        ∙ sym faces_more;
  }
