-- A patch as a mesh with errors: prices, what a collapse leaves, and least steps.
use Rattle.std.proofs.Common.{◌≡◌, ℕ, ℤ, pos, ◌+ℤ◌, Bool, true, false, cond, not, eqb, List, [], ◌∷◌, map, Option, Some, None, is_some, Result, Ok, Err, IfOk, sym, ap, ◌∙◌, refl, subst, inl, inr, arith}
use Rattle.std.proofs.lemmas.Bool.{eqb-true, false≢true}
use Rattle.std.specs.Cmp.{nat_cmp_total}
use Rattle.std.specs.FinMap as finite
use Rattle.std.specs.FinMap.{nat_cmp-IsAntisymmetric}
use Rattle.std.specs.List.{filter, find}
use Rattle.std.specs.Option.{option_map, option_map_or}
use Rattle.oemm_octree.specs.declared.cells.Cell.{Cell}
use Rattle.oemm_octree.specs.declared.points.Point.{Point}
use Rattle.oemm_octree.specs.Leaves.{in_core}
use Rattle.oemm_octree.specs.Octree.{is_inside}
use Rattle.oemm_octree.proofs.Tilings.{area_is_core}
use Rattle.oemm_plane.proofs.Sums.{sums_value-added, sums_value-none}
use Rattle.mesh_data.specs.declared.edits.Step.{Step}
use Rattle.mesh_data.specs.declared.edits.Reply.{Reply}
use Rattle.mesh_data.specs.declared.edits.Reply.TheVariants.{DoneAt}
use Rattle.mesh_data.specs.declared.geometry.Vertex.{Vertex}
use Rattle.mesh_data.specs.declared.planes.Plane.{Plane}
use Rattle.mesh_data.specs.Edits.{collapse_verdict_by, collapsed, is_done, planes_or_none, point_or_origin}
use Rattle.mesh_data.specs.Planes.{added, no_sums, sums_value}
use Rattle.edit_laws.proofs.SeenEffects.{get-collapsed, get-with, taking}
use Rattle.edit_steps.specs.Passed.{CollapsePassed}
use Rattle.edit_steps.proofs.Passed.{collapse_passed_by}
use Rattle.sheet_data.specs.declared.patches.Patch.{Patch}
use Rattle.sheet_data.specs.Summed.{SummedVertex}
use Rattle.mesh_sheets.specs.Assembled.{has_name}
use Rattle.queued_simplify.specs.Errors.{ErrorMesh, collapse_reply, contracted, made_by, price}
use Rattle.queued_simplify.specs.LeastSteps.{AreLeastStepsBy}
use Rattle.patch_edits.specs.Edits.{collapse_on, collapsed_on, collapsed_on_by}
use Rattle.patch_edits.specs.LeastSteps.{AreLeastStepsOn}
use Rattle.patch_edits.specs.PatchMesh.{cost_on, mesh_of, placed, sums_at}
use Rattle.patch_edits.proofs.Formed.{formed_collapsed}
use Rattle.patch_edits.proofs.Told.{get_of}
use Rattle.mesh_edits.specs.Fragments.{Fragmented, IsPatchOn}
use Rattle.mesh_edits.specs.Simplified.{collapsed_in, seen_on}
use Rattle.mesh_edits.proofs.Altered.{changed_at, others}
use Rattle.mesh_edits.proofs.Counts.{whole_counted}
use Rattle.mesh_edits.proofs.Effects.{tris_collapsed}
use Rattle.mesh_edits.proofs.Entries.{some_found}
use Rattle.mesh_edits.proofs.On.{held_on}

abbrev find_at : ℕ → List SummedVertex → Option SummedVertex
find_at w vs = find (λ (x : SummedVertex). eqb w x.name) vs

-- the price of a collapse is its cost on the patch
pub price_is : (p : Patch) (u v : ℕ) → price (seen_on p) u v ≡ cost_on p u v
price_is p u v = sym (sums_value-added (sums_at p.vertices u) (sums_at p.vertices v) (point_or_origin (mesh_of p) v))

pub reply_is : (inside : Point → Bool) (p : Patch) (u v : ℕ) (most : ℤ) → collapse_reply inside (seen_on p) u v most ≡ collapse_on inside p u v most
reply_is inside p u v most = ap (λ z. collapse_verdict_by z inside (mesh_of p) u v most) (price_is p u v)

-- and so is the reply to a call that may have wanted memory
pub verdict_is : {E : Type 0} (inside : Point → Bool) (p : Patch) (u v : ℕ) (most top : ℤ) → top ≡ most → (o : Result Reply E)
    → IfOk o (λ r. r ≡ collapse_on inside p u v top) → IfOk o (λ r. r ≡ collapse_reply inside (seen_on p) u v most)
verdict_is inside p u v most top same (Ok r) is = is ∙ ap (collapse_on inside p u v) same ∙ sym (reply_is inside p u v most)
verdict_is inside p u v most top same (Err refused) is = tt

-- ---- what is found after a collapse

same_either : {X : Type 0} (b : Bool) (x : X) → x ≡ cond b x x
same_either true x = refl
same_either false x = refl

module _ (u v : ℕ) (f : SummedVertex → SummedVertex) (same : (x : SummedVertex) → (f x).name ≡ x.name) where
  name_at : (x : SummedVertex) → (changed_at v f x).name ≡ x.name
  name_at x = elim (eqb x.name v) as (λ (b : Bool). (let y : SummedVertex = cond b (f x) x in y.name) ≡ x.name) [ true ↦ same x | false ↦ refl ]

  -- a name of which u is another
  apart_of : (w : ℕ) (x : SummedVertex) → eqb w x.name ≡ true → eqb x.name u ≡ eqb w u
  apart_of w x here = ap (λ n. eqb n u) (sym (eqb-true w x.name here))

  found_left : (w : ℕ) (vs : List SummedVertex) → find_at w (map (changed_at v f) (filter (others u) vs)) ≡ cond (eqb w u) None (option_map (changed_at v f) (find_at w vs))
  found_left w [] = same_either (eqb w u) None
  found_left w (x ∷ vs) =
      let rest = find_at w (map (changed_at v f) (filter (others u) vs)) in
      let more = found_left w vs in
      elim (eqb w x.name) as (λ b. eqb w x.name ≡ b → find_at w (map (changed_at v f) (cond (not (eqb x.name u)) (x ∷ filter (others u) vs) (filter (others u) vs))) ≡ cond (eqb w u) None (option_map (changed_at v f) (cond b (Some x) (find_at w vs)))) [
        | true ↦ λ here.
            ap (λ b. find_at w (map (changed_at v f) (cond (not b) (x ∷ filter (others u) vs) (filter (others u) vs)))) (apart_of w x here)
            ∙ elim (eqb w u) as (λ b. eqb w u ≡ b → find_at w (map (changed_at v f) (cond (not b) (x ∷ filter (others u) vs) (filter (others u) vs))) ≡ cond b None (Some (changed_at v f x))) [
              | true ↦ λ gone. more ∙ ap (λ b. cond b None (option_map (changed_at v f) (find_at w vs))) gone
              | false ↦ λ _. ap (λ b. cond b (Some (changed_at v f x)) rest) (ap (eqb w) (name_at x) ∙ here)
            ] refl
        | false ↦ λ away.
            elim (eqb x.name u) as (λ b. find_at w (map (changed_at v f) (cond (not b) (x ∷ filter (others u) vs) (filter (others u) vs))) ≡ cond (eqb w u) None (option_map (changed_at v f) (find_at w vs))) [
              | true ↦ more
              | false ↦ ap (λ b. cond b (Some (changed_at v f x)) rest) (ap (eqb w) (name_at x) ∙ away) ∙ more
            ]
      ] refl

-- what is found at a name has it
named_so : (w : ℕ) (vs : List SummedVertex) (x : SummedVertex) → find_at w vs ≡ Some x → x.name ≡ w
named_so w [] x is = absurd (cc)
named_so w (y ∷ vs) x is =
    elim (eqb w y.name) as (λ b. eqb w y.name ≡ b → cond b (Some y) (find_at w vs) ≡ Some x → x.name ≡ w) [
      | true ↦ λ here found. let one : y ≡ x = cc in sym (eqb-true w y.name here ∙ ap (λ (z : SummedVertex). z.name) one)
      | false ↦ λ _ found. named_so w vs x found
    ] refl is

-- the change is made where the name is v
changed_found : (v w : ℕ) (f : SummedVertex → SummedVertex) (vs : List SummedVertex) → option_map (changed_at v f) (find_at w vs) ≡ cond (eqb w v) (option_map f (find_at w vs)) (find_at w vs)
changed_found v w f vs =
    elim (find_at w vs) as (λ o. find_at w vs ≡ o → option_map (changed_at v f) o ≡ cond (eqb w v) (option_map f o) o) [
      | None ↦ λ _. same_either (eqb w v) None
      | Some x ↦ λ is.
          ap (λ n. Some (cond (eqb n v) (f x) x)) (named_so w vs x is)
          ∙ elim (eqb w v) as (λ b. Some (cond b (f x) x) ≡ cond b (Some (f x)) (Some x)) [ true ↦ refl | false ↦ refl ]
    ] refl

-- no vertex of a patch's mesh has planes
planes_of_found : (o : Option SummedVertex) → option_map_or (λ (ps : List Plane). ps) (option_map (λ (x : Vertex). x.planes) (option_map (λ x. (placed x).1) o)) [] ≡ []
planes_of_found None = refl
planes_of_found (Some x) = refl

no_planes : (p : Patch) (u : ℕ) → planes_or_none (mesh_of p) u ≡ []
no_planes p u = ap (λ o. option_map_or (λ (ps : List Plane). ps) (option_map (λ (x : Vertex). x.planes) o) []) (get_of p u) ∙ planes_of_found (find_at u p.vertices)

module _ (p : Patch) (u v : ℕ) where
  abbrev adds : SummedVertex → SummedVertex
  adds x = record x { quad = added x.quad (sums_at p.vertices u) }

  -- what is found after the collapse
  left_at : (w : ℕ) → find_at w (collapsed_on p u v).vertices ≡ cond (eqb w u) None (cond (eqb w v) (option_map adds (find_at w p.vertices)) (find_at w p.vertices))
  left_at w = found_left u v adds (λ x. refl) w p.vertices ∙ ap (λ o. cond (eqb w u) None o) (changed_found v w adds p.vertices)

  placed_then : (o : Option SummedVertex) → option_map (λ x. (placed x).1) (option_map adds o) ≡ option_map (taking (mesh_of p) u) (option_map (λ x. (placed x).1) o)
  placed_then None = refl
  placed_then (Some x) = ap (λ (ps : List Plane). Some (let y : Vertex = record { point = x.point; planes = ps } in y)) (sym (no_planes p u))

  -- the vertices of the mesh
  vertices_then : (mesh_of (collapsed_on p u v)).vertices ≡ (collapsed (mesh_of p) u v).vertices
  vertices_then =
      let m = mesh_of p in
      finite.same_map nat_cmp_total nat_cmp-IsAntisymmetric _ _ (λ w.
      get_of (collapsed_on p u v) w
      ∙ ap (option_map (λ x. (placed x).1)) (left_at w)
      ∙ elim (eqb w u) as (λ b. option_map (λ x. (placed x).1) (cond b None (cond (eqb w v) (option_map adds (find_at w p.vertices)) (find_at w p.vertices))) ≡ cond b None (cond (eqb w v) (option_map (taking m u) (finite.get m.vertices v)) (finite.get m.vertices w))) [
        | true ↦ refl
        | false ↦ elim (eqb w v) as (λ b. eqb w v ≡ b → option_map (λ x. (placed x).1) (cond b (option_map adds (find_at w p.vertices)) (find_at w p.vertices)) ≡ cond b (option_map (taking m u) (finite.get m.vertices v)) (finite.get m.vertices w)) [
          | true ↦ λ here. placed_then (find_at w p.vertices) ∙ ap (option_map (taking m u)) (sym (get_of p w) ∙ ap (finite.get m.vertices) (eqb-true w v here))
          | false ↦ λ _. sym (get_of p w)
        ] refl
      ]
      ∙ sym (get-collapsed m u v w ∙ ap (λ o. cond (eqb w u) None o) (get-with m v w (taking m u))))

  abbrev value_of : ℕ → Point → ℤ
  value_of x at = sums_value (sums_at p.vertices x) at

  sums_then : (o : Option SummedVertex) (at : Point) → is_some o ≡ true
      → sums_value (option_map_or (λ (x : SummedVertex). x.quad) (option_map adds o) no_sums) at ≡ sums_value (option_map_or (λ (x : SummedVertex). x.quad) o no_sums) at +ℤ value_of u at
  sums_then None at some = absurd (false≢true some)
  sums_then (Some x) at some = sums_value-added x.quad (sums_at p.vertices u) at

  -- the errors
  error_then : has_name p.vertices v ≡ true → (x : ℕ) (at : Point)
      → sums_value (sums_at (collapsed_on p u v).vertices x) at ≡ (contracted (seen_on p) u v).error x at
  error_then held x at =
      ap (λ o. sums_value (option_map_or (λ (y : SummedVertex). y.quad) o no_sums) at) (left_at x)
      ∙ elim (eqb x u) as (λ b. sums_value (option_map_or (λ (y : SummedVertex). y.quad) (cond b None (cond (eqb x v) (option_map adds (find_at x p.vertices)) (find_at x p.vertices))) no_sums) at ≡ cond b (pos 0) (cond (eqb x v) (value_of v at +ℤ value_of u at) (value_of x at))) [
        | true ↦ sums_value-none at
        | false ↦ elim (eqb x v) as (λ b. eqb x v ≡ b → sums_value (option_map_or (λ (y : SummedVertex). y.quad) (cond b (option_map adds (find_at x p.vertices)) (find_at x p.vertices)) no_sums) at ≡ cond b (value_of v at +ℤ value_of u at) (value_of x at)) [
          | true ↦ λ here.
              ap (λ w. sums_value (option_map_or (λ (y : SummedVertex). y.quad) (option_map adds (find_at w p.vertices)) no_sums) at) (eqb-true x v here)
              ∙ sums_then (find_at v p.vertices) at (some_found v p.vertices ∙ held)
          | false ↦ λ _. refl
        ] refl
      ]

module _ (area : List Cell) where
  abbrev holds : Point → Bool
  holds = is_inside area

  module _ (p : Patch) (on : IsPatchOn area p) (u v : ℕ) (passed : CollapsePassed holds (mesh_of p) u v) where
    abbrev core_holds : Point → Bool
    core_holds = in_core on.cells on.core

    by_core : CollapsePassed core_holds (mesh_of p) u v
    by_core = subst (λ (h : Point → Bool). CollapsePassed h (mesh_of p) u v) (ap is_inside on.is_area ∙ area_is_core on.cells on.core on.tiles on.below) passed

    pub on_then : IsPatchOn area (collapsed_on p u v)
    on_then = record { cells = on.cells; core = on.core; tiles = on.tiles; below = on.below; is_area = on.is_area; formed = formed_collapsed on.cells on.core p on.formed u v by_core }

    -- the mesh with errors
    pub seen_then : seen_on (collapsed_on p u v) ≡ contracted (seen_on p) u v
    seen_then =
        let held : has_name p.vertices v ≡ true = sym (held_on area p on v) ∙ passed.pair.onto_held in
        λ i. record {
          mesh = record { vertices = vertices_then p u v i; tris = tris_collapsed on.cells on.core p on.formed u v by_core i };
          error = λ x at. error_then p u v held x at i;
        }

  -- ---- steps

  pub steps_on : (most : ℤ) (target : ℕ) (ss : List Step) (p : Patch) → IsPatchOn area p → AreLeastStepsBy holds (seen_on p) most target ss → AreLeastStepsOn holds p most target ss
  steps_on most target [] p on are =
      elim are [
        | inl low ↦ inl (omega (arith, low, whole_counted area p on))
        | inr stuck ↦ inr (λ u v k done. stuck u v k (reply_is holds p u v most ∙ done))
      ]
  steps_on most target (s ∷ ss) p on are =
      let says : collapse_on holds p s.u s.v most ≡ DoneAt s.cost = sym (reply_is holds p s.u s.v most) ∙ are.1.done in
      let passed = collapse_passed_by (cost_on p s.u s.v) holds (mesh_of p) s.u s.v most (ap is_done says) in (
        omega (arith, are.0, whole_counted area p on),
        says,
        λ u v k done. are.1.least u v k (reply_is holds p u v most ∙ done),
        steps_on most target ss (collapsed_on p s.u s.v) (on_then p on s.u s.v passed)
            (subst (λ (w : ErrorMesh). AreLeastStepsBy holds w most target ss) (sym (seen_then p on s.u s.v passed)) are.2),
      )

-- what these collapses make of a fragment
pub made_on : (f : Fragmented) (ss : List Step) → made_by collapsed_in f ss ≡ record { patch = collapsed_on_by f.patch ss; area = f.area }
made_on f [] = refl
made_on f (s ∷ ss) = made_on (collapsed_in f s.u s.v) ss
