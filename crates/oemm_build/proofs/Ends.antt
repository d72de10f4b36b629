-- What a build leaves at its end.
use Rattle.std.proofs.Common.{◌≡◌, inl, inr, ⊎_elim, ℕ, [], Option, Result, refl, sym, ap, ◌∙◌, subst, arith}
use Rattle.oemm_limits.specs.declared.TheConstants.{MOST_LEAVES}
use Rattle.mesh_data.specs.declared.geometry.Soup.{Soup}
use Rattle.mesh_data.specs.Mesh.{Mesh, start}
use Rattle.mesh_items.specs.Reading.{Given, Reading}
use Rattle.oemm_blobs.specs.Content.{Content, blob_at}
use Rattle.oemm_blobs.specs.Store.{Keeps, StoreState}
use Rattle.oemm_blobs.specs.declared.keys.Key.TheVariants as key
use Rattle.oemm_blobs.proofs.Crashes.{then_leaves, weakened}
use Rattle.stored_mesh.specs.Stored.{Base, BytesAt, IsSound, IsUnbuilt}
use Rattle.mesh_cutting.specs.Cuts.{mesh_in}
use Rattle.store_spelling.specs.Bases.{IsBase}
use Rattle.store_spelling.specs.Spelled.{store_spelling}
use Rattle.oemm_build.specs.Building.{IsBuiltFrom, LeavesBuild}
use Rattle.oemm_build.specs.Items.{IsBaseOf, IsPlanOf, IsRead}
use Rattle.oemm_build.specs.declared.planning.Plan.{Plan}
use Rattle.oemm_build.specs.Laying.{IsBuiltOver, IsSameButSheets, LaysAll, LeavesSo, MayLeave, TellsStill}

-- ---- soundness

sound : (b : Base) (at now : BytesAt) → IsBase b → IsBuiltOver b.index (start b.soup) at now → IsUnbuilt at
    → IsSound store_spelling now b []
sound b at now base over unbuilt = record {
  stored = record {
    built = record {
      index = over.index;
      grid = base.grid;
      few_points = base.few_points;
      few_faces = base.few_faces;
      cells = base.cells;
      good = base.good;
      sheets = over.there;
    };
    few = omega arith;
    entries = λ n d lt. absurd (omega (arith, lt));
    numbered = tt;
    given = refl;
    sheets = over.there;
  };
  ends = λ n le. over.others (key.Entry n) (λ is. is) ∙ unbuilt.1 n;
}

pub built_from : (b : Base) (at now : BytesAt) → IsBase b → IsBuiltOver b.index (start b.soup) at now → IsBuiltFrom b at now
built_from b at now base over = record { over = over; sound = sound b at now base over }

-- ---- plans

planned_mesh : (cap core : ℕ) (s : Soup) (p : Plan) → IsPlanOf cap core s p → mesh_in p.cut ≡ start s
planned_mesh cap core s p plan = ap mesh_in plan.cut

pub plan_base : (reading : Option Reading) (g : Given) (cap core : ℕ) (s : Soup) (p : Plan) → IsRead reading g s
    → IsPlanOf cap core s p → IsBaseOf reading g cap core (record { index = p.index; soup = s })
plan_base reading g cap core s p read plan =
    record { read = read; base = plan.base; asked_cap = plan.asked_cap; asked_core = plan.asked_core }

-- what was put of the plan is what is put of the start mesh
pub plan_lays : {T E : Type 0} (cap core : ℕ) (s : Soup) (p : Plan) (old new : StoreState) (answer result : Result T E)
    → IsPlanOf cap core s p → answer ≡ result → LaysAll p.index (mesh_in p.cut) old new answer
    → LaysAll p.index (start s) old new result
plan_lays {T} {E} cap core s p old new answer result plan is lays =
    subst (λ (m : Mesh). LaysAll p.index m old new result) (planned_mesh cap core s p plan)
    (subst (λ (r : Result T E). LaysAll p.index (mesh_in p.cut) old new r) is lays)

-- ---- what was kept, and then what was put

module _ (old mid new : StoreState) (keeps : Keeps old mid) where
  pub told_then : (R S : BytesAt → BytesAt → Type 0) → ((at now : BytesAt) → R at now → S at now)
      → TellsStill R mid new → TellsStill S old new
  told_then R S from told content was =
      let now = told content (keeps.content ∙ was) in (now.0, now.1, from (blob_at content) (blob_at now.0) now.2)

  pub crash_then : (R S : BytesAt → BytesAt → Type 0) → ((at now : BytesAt) → R at now → S at now)
      → ((content : Content) → S (blob_at content) (blob_at content)) → LeavesSo R mid new → LeavesSo S old new
  crash_then R S from itself leaves content calm =
      let P : Content → Type 0 = λ left. left ≡ content in
      let Q : Content → Type 0 = λ left. R (blob_at content) (blob_at left) in
      let W : Content → Type 0 = λ left. S (blob_at content) (blob_at left) in
      then_leaves old mid new P Q W (keeps.crash content calm) (leaves content (keeps.calm content calm))
      (λ left e. subst W (sym e) (itself content))
      (λ left is. from (blob_at content) (blob_at left) is)

  module _ (IsOf : Base → Type 0) (b : Base) (of : IsOf b) (base : IsBase b) where
    pub crash_all : LeavesSo (MayLeave b.index (start b.soup)) mid new → LeavesSo (LeavesBuild IsOf) old new
    crash_all leaves =
        crash_then (MayLeave b.index (start b.soup)) (LeavesBuild IsOf)
        (λ at left may. ⊎_elim (λ same. inl same) (λ over. inr (b, of, built_from b at left base over)) may)
        (λ content. inl (λ k not. refl)) leaves

    pub told_built : TellsStill (IsBuiltOver b.index (start b.soup)) mid new → TellsStill (IsBuiltFrom b) old new
    told_built told =
        told_then (IsBuiltOver b.index (start b.soup)) (IsBuiltFrom b) (λ at now over. built_from b at now base over) told

pub crash_kept : (IsOf : Base → Type 0) (old new : StoreState) → Keeps old new → LeavesSo (LeavesBuild IsOf) old new
crash_kept IsOf old new keeps content calm =
    weakened old new (λ left. left ≡ content) (λ left. LeavesBuild IsOf (blob_at content) (blob_at left)) (keeps.crash content calm)
    (λ left e. inl (λ k not. ap (λ (c : Content). blob_at c k) e))

pub told_kept : (old new : StoreState) → Keeps old new → TellsStill (IsSameButSheets MOST_LEAVES) old new
told_kept old new keeps content was = (content, keeps.content ∙ was, λ k not. refl)
