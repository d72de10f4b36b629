-- Edits leave a clean mesh clean, and no more triangles.
use Rattle.std.proofs.Common.{◌≡◌, ◌≢◌, ℕ, ℤ, ◌≤◌, Bool, true, false, cond, not, List, [], ◌∷◌, ◌++◌, map, length, All, Some, None, sym, ap, ◌∙◌, refl, arith, is_some, ne_eqb}
use Rattle.std.proofs.lemmas.List.{length-map}
use Rattle.std.proofs.lemmas.List.Elements.{All-weaker}
use Rattle.std.proofs.lemmas.List.Filters.{length-filter_both}
use Rattle.std.proofs.lemmas.List.Sorted.{length_permutation}
use Rattle.std.specs.Cmp.{nat_cmp_total, unsigned_tied}
use Rattle.std.specs.FinMap as finite
use Rattle.std.specs.List.{filter}
use Rattle.std.specs.Option.{option_map_or}
use Rattle.oemm_octree.specs.declared.points.Point.{Point}
use Rattle.mesh_data.specs.declared.edits.Edit.{Edit}
use Rattle.mesh_data.specs.declared.edits.Edit.TheVariants.{Move, Collapse, Flip, Simplify}
use Rattle.mesh_data.specs.declared.edits.Reply.TheVariants.{Done}
use Rattle.mesh_data.specs.declared.edits.Step.{Step}
use Rattle.mesh_data.specs.declared.geometry.Tri.{Tri}
use Rattle.mesh_data.specs.declared.geometry.Vertex.{Vertex}
use Rattle.oemm_lists.specs.Ascending.{in_order}
use Rattle.mesh_data.specs.Edits.{is_done, verdict, after, moved, collapsed, collapsed_tris, flipped, flipped_tris, collapsed_by, simplified, substituted, planes_or_none, AreLeastSteps, move_verdict, collapse_verdict, flip_verdict}
use Rattle.mesh_data.specs.Links.{has_both, opposites}
use Rattle.mesh_data.specs.Manifold.{IsTriangleOf, IsTriangleOn}
use Rattle.mesh_data.specs.Mesh.{Mesh}
use Rattle.mesh_data.specs.Triangles.{tri_cmp, turned}
use Rattle.mesh_data.specs.Work.{work}
use Rattle.triangle_lists.proofs.Sorting.{IsPermutation-in_order}
use Rattle.triangle_edits.proofs.Results.{few_flipped, triangles_collapsed, triangles_flipped}
use Rattle.edit_steps.proofs.Passed.{PairPassed, collapse_passed, ends_of_flip, flip_passed}
use Rattle.edit_steps.proofs.Simplification.{least_of_all}
use Rattle.edit_steps.proofs.Tried.{held_there}
use Rattle.edit_steps.proofs.Vertices.{changed, contains-changed}
use Rattle.work_topology.proofs.Kept.{collapsed_sorted, flipped_sorted}
use Rattle.mesh_sheets.specs.Clean.{IsClean}
use Rattle.sheet_frame.proofs.Free.{flip_done}

-- the triangles are turned
pub all_turned : (m : Mesh) → IsClean m → All (λ t. turned t ≡ t) m.tris
all_turned m clean = All-weaker (IsTriangleOf m.vertices) (λ t. turned t ≡ t) (λ t is. is.is_turned) m.tris clean.corners

-- the mesh is clean, with no more triangles
pub record LeavesClean (m n : Mesh) : Type 0 where
  pub clean : IsClean n
  pub few : length n.tris ≤ length m.tris

pub same_clean : (m : Mesh) → IsClean m → LeavesClean m m
same_clean m clean = record { clean = clean; few = omega arith }

pub both_clean : (m n o : Mesh) → LeavesClean m n → LeavesClean n o → LeavesClean m o
both_clean m n o one other = record { clean = other.clean; few = omega (arith, one.few, other.few) }

-- ---- one edit

on_names : (P Q : ℕ → Type 0) (t : Tri) → ((w : ℕ) → P w → Q w) → IsTriangleOn P t → IsTriangleOn Q t
on_names P Q t more is = record { proper = is.proper; is_turned = is.is_turned; a = more t.a is.a; b = more t.b is.b; c = more t.c is.c }

clean_moved : (m : Mesh) (v : ℕ) (to : Point) → IsClean m → LeavesClean m (moved m v to)
clean_moved m v to clean =
    let f : Vertex → Vertex = λ x. record x { point = to } in
    let there : (w : ℕ) → finite.contains_key m.vertices w ≡ true → finite.contains_key (moved m v to).vertices w ≡ true = λ w h. contains-changed f v w m.vertices ∙ h in
    record {
      clean = record { sorted = clean.sorted; corners = λ k t lt. on_names (λ w. finite.contains_key m.vertices w ≡ true) (λ w. finite.contains_key (moved m v to).vertices w ≡ true) _ there (clean.corners k t lt) };
      few = omega arith;
    }

-- all names but u stay
there_after : (m : Mesh) (u v w : ℕ) → finite.contains_key m.vertices w ≡ true → w ≢ u → finite.contains_key (collapsed m u v).vertices w ≡ true
there_after m u v w there other =
    let taking : Vertex → Vertex = λ x. record x { planes = x.planes ++ planes_or_none m u } in
    let vertices = changed taking v m.vertices in
    ap is_some (finite.get-remove nat_cmp_total vertices u w)
    ∙ ap (λ (b : Bool). is_some (cond b None (finite.get vertices w))) (unsigned_tied w u ∙ ne_eqb w u other)
    ∙ contains-changed taking v w m.vertices
    ∙ there

pub few_collapsed : (u v : ℕ) (ts : List Tri) → length (collapsed_tris u v ts) ≤ length ts
unfolding collapsed_tris
few_collapsed u v ts =
    let put : Tri → Tri = λ t. turned (substituted u v t) in
    let kept = filter (λ t. not (has_both u v t)) ts in
    omega (
      arith,
      length_permutation (map put kept) (in_order tri_cmp (map put kept)) (IsPermutation-in_order tri_cmp (map put kept)),
      length-map kept put,
      length-filter_both (has_both u v) (λ t. not (has_both u v t)) (λ _. refl) ts,
    )

clean_collapsed : (inside : Point → Bool) (m : Mesh) (u v : ℕ) → PairPassed inside m u v → IsClean m → LeavesClean m (collapsed m u v)
clean_collapsed inside m u v can clean = record {
  clean = record {
    sorted = collapsed_sorted u v m.tris;
    corners = triangles_collapsed (λ w. finite.contains_key m.vertices w ≡ true) (λ w. finite.contains_key (collapsed m u v).vertices w ≡ true) u v m.tris
        (λ w. there_after m u v w)
        (there_after m u v v (held_there inside m v can.onto_held) (λ is. can.apart (sym is)))
        clean.corners;
  };
  few = few_collapsed u v m.tris;
}

clean_flipped : (inside : Point → Bool) (m : Mesh) (a b : ℕ) → PairPassed inside m a b → flip_verdict inside m a b ≡ Done → IsClean m → LeavesClean m (flipped m a b)
clean_flipped inside m a b can done clean =
    elim (opposites m.tris a b) as (λ o. opposites m.tris a b ≡ o → LeavesClean m (option_map_or (λ ends. let k : Mesh = record { vertices = m.vertices; tris = flipped_tris a b ends.0 ends.1 m.tris } in k) o m)) [
      | None ↦ λ _. same_clean m clean
      | Some ends ↦ λ is.
          let apart = ends_of_flip inside m a b ends.0 ends.1 done is in
          record {
            clean = record {
              sorted = flipped_sorted a b ends.0 ends.1 m.tris;
              corners = triangles_flipped (λ w. finite.contains_key m.vertices w ≡ true) a b ends.0 ends.1 m.tris can.apart apart is clean.corners;
            };
            few = few_flipped a b ends.0 ends.1 m.tris can.apart apart is;
          }
    ] refl

clean_if : (m n : Mesh) (b : Bool) → IsClean m → (b ≡ true → LeavesClean m n) → LeavesClean m (cond b n m)
clean_if m n true clean h = h refl
clean_if m n false clean h = same_clean m clean

module _ (inside : Point → Bool) where
  pub clean_collapse : (m : Mesh) (u v : ℕ) (most : ℤ) → IsClean m → is_done (collapse_verdict inside m u v most) ≡ true → LeavesClean m (collapsed m u v)
  clean_collapse m u v most clean done = clean_collapsed inside m u v (collapse_passed inside m u v most done).pair clean

  clean_steps : (most : ℤ) (target : ℕ) (ss : List Step) (m : Mesh) → IsClean m → AreLeastSteps inside m most target ss → LeavesClean m (collapsed_by m ss)
  clean_steps most target [] m clean steps = same_clean m clean
  clean_steps most target (s ∷ ss) m clean steps =
      let one = clean_collapse m s.u s.v most clean (ap is_done steps.1) in
      both_clean m (collapsed m s.u s.v) (collapsed_by (collapsed m s.u s.v) ss) one (clean_steps most target ss (collapsed m s.u s.v) one.clean steps.3)

  pub clean_edit : (m : Mesh) (e : Edit) → IsClean m → LeavesClean m (after m e (verdict inside m e))
  clean_edit m (Move v to) clean = clean_if m (moved m v to) (is_done (move_verdict inside m v to)) clean (λ _. clean_moved m v to clean)
  clean_edit m (Collapse u v most) clean = clean_if m (collapsed m u v) (is_done (collapse_verdict inside m u v most)) clean (clean_collapse m u v most clean)
  clean_edit m (Flip a b) clean =
      clean_if m (flipped m a b) (is_done (flip_verdict inside m a b)) clean (λ done. clean_flipped inside m a b (flip_passed inside m a b done).pair (flip_done inside m a b done) clean)
  clean_edit m (Simplify most target) clean = clean_steps most target (simplified inside m most target).steps m clean (least_of_all inside m most target)

  -- edits in a row
  pub clean_work : (es : List Edit) (m : Mesh) → IsClean m → LeavesClean m (work inside m es).mesh
  clean_work [] m clean = same_clean m clean
  clean_work (e ∷ es) m clean =
      let n = after m e (verdict inside m e) in
      let one = clean_edit m e clean in
      both_clean m n (work inside n es).mesh one (clean_work es n one.clean)
