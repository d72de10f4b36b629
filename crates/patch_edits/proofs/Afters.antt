-- What edits make of the patch of a mesh.
use Rattle.std.proofs.Common.{◌≡◌, ℕ, ℤ, Bool, true, false, cond, not, eqb, length, List, [], ◌∷◌, map, Option, Some, None, sym, ap, ◌∙◌, refl, subst, arith, inl, inr}
use Rattle.std.specs.List.{filter}
use Rattle.std.specs.Option.{option_map_or}
use Rattle.oemm_octree.specs.declared.points.Point.{Point}
use Rattle.oemm_octree.specs.declared.cells.Cell.{Cell}
use Rattle.oemm_octree.specs.Leaves.{AreBelow, AreTiles, is_one_of, in_core}
use Rattle.oemm_octree.specs.Octree.{area_of, is_inside}
use Rattle.oemm_octree.proofs.Tilings.{area_is_core}
use Rattle.mesh_data.specs.declared.edits.Edit.{Edit}
use Rattle.mesh_data.specs.declared.edits.Edit.TheVariants.{Move, Collapse, Flip, Simplify}
use Rattle.mesh_data.specs.declared.edits.Reply.{Reply}
use Rattle.mesh_data.specs.declared.edits.Step.{Step}
use Rattle.mesh_data.specs.Edits.{is_done, verdict, after, moved, collapsed, collapsed_by, flipped, flipped_tris, planes_or_none, move_verdict, collapse_verdict, flip_verdict, simplified, whole_count, AreLeastSteps}
use Rattle.mesh_data.specs.Links.{opposites}
use Rattle.mesh_data.specs.Mesh.{Mesh}
use Rattle.mesh_data.specs.Planes.{sums_of, added}
use Rattle.mesh_data.specs.Work.{work}
use Rattle.edit_steps.proofs.Passed.{collapse_passed, flip_passed}
use Rattle.edit_steps.proofs.Simplification.{least_of_all, made_of_all}
use Rattle.sheet_data.specs.declared.patches.Patch.{Patch}
use Rattle.sheet_data.specs.Summed.{SummedVertex}
use Rattle.mesh_sheets.specs.Clean.{IsClean}
use Rattle.mesh_sheets.specs.Sheets.{vertices_in, patch}
use Rattle.mesh_sheets.proofs.Leaves.{none_at}
use Rattle.sheet_frame.proofs.Cleans.{all_turned, clean_collapse, clean_edit}
use Rattle.sheet_frame.proofs.Frame.{frame_moved, frame_flipped}
use Rattle.sheet_frame.proofs.Free.{can_move}
use Rattle.sheet_frame.proofs.Rest.{SameRest}
use Rattle.sheet_frame.proofs.Rows.{frame_collapse}
use Rattle.patch_edits.specs.PatchMesh.{mesh_of, sums_at}
use Rattle.patch_edits.specs.Edits.{collapse_on, moved_on, collapsed_on, flipped_on, PatchSimplification, simplified_on, verdict_on, collapsed_on_by, after_on}
use Rattle.patch_edits.specs.LeastSteps.{AreLeastStepsOn}
use Rattle.patch_edits.specs.Work.{WorkedPatch, work_on}
use Rattle.patch_edits.proofs.Fragments.{mixed_and_near_stay, whole_collapsed, whole_flipped}
use Rattle.patch_edits.proofs.Kernels.{vertices_moved, vertices_collapsed}
use Rattle.patch_edits.proofs.LeastSteps.{simplified_by}
use Rattle.patch_edits.proofs.Sight.{ends_same}
use Rattle.patch_edits.proofs.Told.{same_patches, whole_moved, count_told, sums_told, sight_told, move_told, collapse_told, flip_told}

module _ (cells : List Cell) (core : List ℕ) (none : is_one_of core (length cells) ≡ false) where
  abbrev inside : Point → Bool
  inside = in_core cells core

  abbrev of : Mesh → Patch
  of m = patch cells m core

  -- ---- one change

  after_is : (m n : Mesh) (q : Patch) → SameRest cells core m n → q.vertices ≡ (of n).vertices → q.whole ≡ (of n).whole → q.mixed ≡ (of m).mixed → q.near ≡ (of m).near → q ≡ of n
  after_is m n q rest v w x y =
      let stay = mixed_and_near_stay cells core m n rest in
      same_patches cells core none q (of n) v w (x ∙ sym stay.0) (y ∙ sym stay.1)

  pub collapse_after : (m : Mesh) (u v : ℕ) (most : ℤ) → IsClean m → is_done (collapse_verdict inside m u v most) ≡ true → collapsed_on (of m) u v ≡ of (collapsed m u v)
  unfolding patch
  collapse_after m u v most clean done =
      let can = (collapse_passed inside m u v most done).pair in
      let sums : sums_of (planes_or_none m u) ≡ sums_at (of m).vertices u = sums_told inside m u can.held in
      after_is m (collapsed m u v) (collapsed_on (of m) u v) (frame_collapse cells core none m u v most clean done)
      (sym (vertices_collapsed inside m u v can ∙ (λ i. map (λ (x : SummedVertex). cond (eqb x.name v) (record x { quad = added x.quad (sums i) }) x) (filter (λ (x : SummedVertex). not (eqb x.name u)) (vertices_in inside m)))))
      (sym (whole_collapsed cells core m u v none (all_turned m clean) can))
      refl refl

  pub move_after : (m : Mesh) (v : ℕ) (to : Point) → IsClean m → is_done (move_verdict inside m v to) ≡ true → moved_on (of m) v to ≡ of (moved m v to)
  unfolding patch
  move_after m v to clean done =
      let can = can_move inside m v to done in
      after_is m (moved m v to) (moved_on (of m) v to) (frame_moved cells core none m v to clean.sorted can)
      (sym (vertices_moved inside m v to can)) (sym (whole_moved cells core none m v to can)) refl refl

  pub flip_after : (m : Mesh) (a b : ℕ) → IsClean m → is_done (flip_verdict inside m a b) ≡ true → flipped_on (of m) a b ≡ of (flipped m a b)
  unfolding patch
  flip_after m a b clean done =
      let can = (flip_passed inside m a b done).pair in
      let p = of m in
      let n : ℕ × ℕ → Mesh = λ ends. record { vertices = m.vertices; tris = flipped_tris a b ends.0 ends.1 m.tris } in
      let q : ℕ × ℕ → Patch = λ ends. record p { whole = flipped_tris a b ends.0 ends.1 p.whole } in
      subst (λ (o : Option (ℕ × ℕ)). option_map_or q o p ≡ of (flipped m a b)) (ends_same inside m (mesh_of p) (sight_told cells core none m clean) a b can.held can.onto_held)
      (elim (opposites m.tris a b) as (λ o. opposites m.tris a b ≡ o → option_map_or q o p ≡ of (option_map_or n o m)) [
        | None ↦ λ _. refl
        | Some ends ↦ λ is.
            let rest : SameRest cells core m (n ends) = subst (λ (o : Option (ℕ × ℕ)). SameRest cells core m (option_map_or n o m)) is (frame_flipped cells core none m a b clean.sorted can) in
            after_is m (n ends) (q ends) rest refl (sym (whole_flipped cells core m a b ends.0 ends.1 none can is)) refl refl
      ] refl)

  -- ---- simplifications

  -- the least steps of a mesh are least steps on its patch, and make its patch of it
  pub steps_told : (most : ℤ) (target : ℕ) (ss : List Step) (m : Mesh) → IsClean m → AreLeastSteps inside m most target ss
      → AreLeastStepsOn inside (of m) most target ss × (collapsed_on_by (of m) ss ≡ of (collapsed_by m ss))
  steps_told most target [] m clean are = (
    elim are [
      | inl few ↦ let count = count_told cells core none m in inl (omega arith)
      | inr never ↦ inr (λ u v c done. never u v c (sym (collapse_told cells core none m u v most clean) ∙ done))
    ],
    refl,
  )
  steps_told most target (s ∷ ss) m clean are =
      let done : is_done (collapse_verdict inside m s.u s.v most) ≡ true = ap is_done are.1 in
      let next = collapsed m s.u s.v in
      let made = collapse_after m s.u s.v most clean done in
      let rest = steps_told most target ss next (clean_collapse inside m s.u s.v most clean done).clean are.3 in
      let count = count_told cells core none m in
      let above = are.0 in (
        (
          omega arith,
          collapse_told cells core none m s.u s.v most clean ∙ are.1,
          λ u v c say. are.2 u v c (sym (collapse_told cells core none m u v most clean) ∙ say),
          subst (λ (q : Patch). AreLeastStepsOn inside q most target ss) (sym made) rest.0,
        ),
        ap (λ (q : Patch). collapsed_on_by q ss) made ∙ rest.1,
      )

  -- ---- edits, and edits in a row

  if_done : (m n : Mesh) (q : Patch) (b c : Bool) → b ≡ c → (c ≡ true → q ≡ of n) → cond b q (of m) ≡ of (cond c n m)
  if_done m n q b c same h =
      ap (λ d. cond d q (of m)) same ∙ elim c as (λ d. (d ≡ true → q ≡ of n) → cond d q (of m) ≡ of (cond d n m)) [ true ↦ λ k. k refl | false ↦ λ _. refl ] h

  pub edit_told : (m : Mesh) (e : Edit) → IsClean m
      → (verdict_on inside (of m) e ≡ verdict inside m e) × (after_on (of m) e (verdict_on inside (of m) e) ≡ of (after m e (verdict inside m e)))
  edit_told m (Move v to) clean =
      let says = move_told cells core none m v to clean in
      (says, if_done m (moved m v to) (moved_on (of m) v to) (is_done (move_verdict inside (mesh_of (of m)) v to)) (is_done (move_verdict inside m v to)) (ap is_done says) (move_after m v to clean))
  edit_told m (Collapse u v most) clean =
      let says = collapse_told cells core none m u v most clean in
      (says, if_done m (collapsed m u v) (collapsed_on (of m) u v) (is_done (collapse_on inside (of m) u v most)) (is_done (collapse_verdict inside m u v most)) (ap is_done says) (collapse_after m u v most clean))
  edit_told m (Flip a b) clean =
      let says = flip_told cells core none m a b clean in
      (says, if_done m (flipped m a b) (flipped_on (of m) a b) (is_done (flip_verdict inside (mesh_of (of m)) a b)) (is_done (flip_verdict inside m a b)) (ap is_done says) (flip_after m a b clean))
  edit_told m (Simplify most target) clean =
      let s = simplified inside m most target in
      let told = steps_told most target s.steps m clean (least_of_all inside m most target) in
      let made : collapsed_on_by (of m) s.steps ≡ of s.mesh = told.1 ∙ ap of (made_of_all inside m most target) in
      let both = simplified_by inside most target s.steps (of m) told.0 in
      let left : length (simplified_on inside (of m) most target).patch.whole ≡ whole_count inside s.mesh =
      ap (λ (t : PatchSimplification). length t.patch.whole) both ∙ ap (λ (q : Patch). length q.whole) made ∙ sym (count_told cells core none s.mesh) in (
        (λ i. Reply.Simplified ((both i).steps) (left i)),
        ap (λ (t : PatchSimplification). collapsed_on_by (of m) t.steps) both ∙ told.1,
      )

  pub work_told : (es : List Edit) (m : Mesh) → IsClean m
      → ((work_on inside (of m) es).replies ≡ (work inside m es).replies) × ((work_on inside (of m) es).patch ≡ of (work inside m es).mesh)
  work_told [] m clean = (refl, refl)
  work_told (e ∷ es) m clean =
      let one = edit_told m e clean in
      let next = after m e (verdict inside m e) in
      let rest = work_told es next (clean_edit inside m e clean).clean in
      let at : work_on inside (after_on (of m) e (verdict_on inside (of m) e)) es ≡ work_on inside (of next) es = ap (λ (p : Patch). work_on inside p es) one.1 in (
        (λ i. one.0 i ∷ (ap (λ (w : WorkedPatch). w.replies) at ∙ rest.0) i),
        ap (λ (w : WorkedPatch). w.patch) at ∙ rest.1,
      )

-- ---- by the cells of the core

pub verdict_on_core : (cells : List Cell) (core : List ℕ) (m : Mesh) (e : Edit) → AreTiles cells → AreBelow (length cells) core → IsClean m
    → verdict_on (is_inside (area_of cells core)) (patch cells m core) e ≡ verdict (is_inside (area_of cells core)) m e
verdict_on_core cells core m e tiles below clean =
    subst (λ (area : Point → Bool). verdict_on area (patch cells m core) e ≡ verdict area m e) (sym (area_is_core cells core tiles below))
    (edit_told cells core (none_at (length cells) core below) m e clean).0

pub after_on_core : (cells : List Cell) (core : List ℕ) (m : Mesh) (e : Edit) → AreTiles cells → AreBelow (length cells) core → IsClean m
    → (let reply = verdict (is_inside (area_of cells core)) m e in after_on (patch cells m core) e reply ≡ patch cells (after m e reply) core)
after_on_core cells core m e tiles below clean =
    let told = edit_told cells core (none_at (length cells) core below) m e clean in
    subst (λ (area : Point → Bool). after_on (patch cells m core) e (verdict area m e) ≡ patch cells (after m e (verdict area m e)) core) (sym (area_is_core cells core tiles below))
    (ap (after_on (patch cells m core) e) (sym told.0) ∙ told.1)

pub replies_on_core : (cells : List Cell) (core : List ℕ) (m : Mesh) (es : List Edit) → AreTiles cells → AreBelow (length cells) core → IsClean m
    → (work_on (is_inside (area_of cells core)) (patch cells m core) es).replies ≡ (work (is_inside (area_of cells core)) m es).replies
replies_on_core cells core m es tiles below clean =
    subst (λ (area : Point → Bool). (work_on area (patch cells m core) es).replies ≡ (work area m es).replies) (sym (area_is_core cells core tiles below))
    (work_told cells core (none_at (length cells) core below) es m clean).0

pub patch_on_core : (cells : List Cell) (core : List ℕ) (m : Mesh) (es : List Edit) → AreTiles cells → AreBelow (length cells) core → IsClean m
    → (work_on (is_inside (area_of cells core)) (patch cells m core) es).patch ≡ patch cells (work (is_inside (area_of cells core)) m es).mesh core
patch_on_core cells core m es tiles below clean =
    subst (λ (area : Point → Bool). (work_on area (patch cells m core) es).patch ≡ patch cells (work area m es).mesh core) (sym (area_is_core cells core tiles below))
    (work_told cells core (none_at (length cells) core below) es m clean).1
