-- An edit behind those of the last task.
use Rattle.std.proofs.Common.{◌≡◌, ℕ, ◌+◌, ◌<◌, ◌≤◌, List, [], ◌∷◌, ◌++◌, length, Ok, Err, refl, set, get_or, arith, ap, sym, ◌∙◌, subst, cond, nat_lt, true, false, Result, sum_by, suc, Bool, All, ◌==◌, take, ◌⊎◌, inl, inr}
use Rattle.std.proofs.lemmas.List.Sums.{sum_by-set}
use Rattle.std.proofs.lemmas.List.Elements.{All-set, All-get_or, All-push}
use Rattle.std.proofs.lemmas.List.{length-set, get_or-set_same, get_or-set_other, take-set-le}
use Rattle.std.proofs.lemmas.Bool.{cases_eq}
use Rattle.std.proofs.lemmas.Bool.Decides.{nat_tests}
use Rattle.oemm_limits.specs.declared.TheConstants.{MOST_EDITS}
use Rattle.mesh_data.specs.declared.edits.Edit.{Edit}
use Rattle.mesh_data.specs.declared.edits.Task.{Task}
use Rattle.edit_script.specs.declared.fault.ScriptWhy.TheVariants.{NoTask}
use Rattle.oemm_limits.specs.declared.what.What.TheVariants.{Edits}
use Rattle.edit_script.specs.declared.fault.ScriptFault.{ScriptFault}
use Rattle.edit_script.specs.declared.fault.ScriptFault.TheVariants.{Syntax, TooMany}
use Rattle.edit_script.specs.Grammar.{with_edit, edited, lane_count, ◌>>=◌}
use Rattle.edit_script.specs.Ranges.{IsDraft, IsTask, IsEdit, AreNumbered}

-- no task
pub with_edit_none :
    (number : ℕ) (tasks : List Task) (edit : Edit) → length tasks ≡ 0 →
    with_edit number tasks edit ≡ Err (Syntax number NoTask)
unfolding with_edit
with_edit_none number [] edit h = refl
with_edit_none number (task ∷ tasks) edit h = cc

-- a task in front
onto : (task : Task) (tasks : List Task) (last : ℕ) (outcome : Result Task ScriptFault) →
    ((outcome >>= λ x. Ok (set tasks last x)) >>= λ later. Ok (task ∷ later)) ≡ (outcome >>= λ x. Ok (set (task ∷ tasks) (suc last) x))
onto task tasks last (Ok x) = refl
onto task tasks last (Err fault) = refl

-- the last task is put back with the edit
with_edit_at :
    (number : ℕ) (task : Task) (tasks : List Task) (edit : Edit) (d : Task) →
    with_edit number (task ∷ tasks) edit
    ≡ (edited (get_or (task ∷ tasks) (length tasks) d) edit >>= λ last. Ok (set (task ∷ tasks) (length tasks) last))
unfolding with_edit
with_edit_at number task [] edit d = refl
with_edit_at number task (next ∷ tasks) edit d =
    ap (λ (outcome : Result (List Task) ScriptFault). outcome >>= λ later. Ok (task ∷ later)) (with_edit_at number next tasks edit d)
    ∙ onto task (next ∷ tasks) (length tasks) (edited (get_or (next ∷ tasks) (length tasks) d) edit)

-- the same at the place of the last task
with_edit_last :
    (number : ℕ) (tasks : List Task) (last : ℕ) (edit : Edit) (task : Task) → length tasks ≡ last + 1 →
    task ≡ get_or tasks last task →
    with_edit number tasks edit ≡ (edited task edit >>= λ x. Ok (set tasks last x))
with_edit_last number [] last edit task h e = absurd (omega (arith, h))
with_edit_last number (first ∷ tasks) last edit task h e =
    let place : last ≡ length tasks = omega arith in
    let there : get_or (first ∷ tasks) (length tasks) task ≡ task = ap (λ (k : ℕ). get_or (first ∷ tasks) k task) (sym place) ∙ sym e in
    with_edit_at number first tasks edit task
    ∙ ap (λ (x : Task). edited x edit >>= λ y. Ok (set (first ∷ tasks) (length tasks) y)) there
    ∙ ap (λ (k : ℕ). edited task edit >>= λ y. Ok (set (first ∷ tasks) k y)) (sym place)

-- a last task that has all its edits
pub with_edit_full :
    (number : ℕ) (tasks : List Task) (last : ℕ) (edit : Edit) (task : Task) → length tasks ≡ last + 1 →
    task ≡ get_or tasks last task → MOST_EDITS ≤ length task.edits →
    with_edit number tasks edit ≡ Err (TooMany Edits (MOST_EDITS + 1))
with_edit_full number tasks last edit task h e full =
    let closed : nat_lt (length task.edits) MOST_EDITS ≡ false = grind (arith, nat_tests) in
    with_edit_last number tasks last edit task h e
    ∙ ap (λ (b : Bool). cond b (Ok (record task { edits = task.edits ++ edit ∷ [] })) (Err (TooMany Edits (MOST_EDITS + 1))) >>= λ x. Ok (set tasks last x)) closed

-- a last task that has room
pub with_edit_ok :
    (number : ℕ) (tasks : List Task) (last : ℕ) (edit : Edit) (task : Task) → length tasks ≡ last + 1 →
    task ≡ get_or tasks last task → length task.edits < MOST_EDITS →
    with_edit number tasks edit ≡ Ok (set tasks last (record task { edits = task.edits ++ edit ∷ [] }))
with_edit_ok number tasks last edit task h e room =
    let open_ : nat_lt (length task.edits) MOST_EDITS ≡ true = grind (arith, nat_tests) in
    with_edit_last number tasks last edit task h e
    ∙ ap (λ (b : Bool). cond b (Ok (record task { edits = task.edits ++ edit ∷ [] })) (Err (TooMany Edits (MOST_EDITS + 1))) >>= λ x. Ok (set tasks last x)) open_

-- an edit leaves the number of a lane's tasks
lane_count-edit :
    (tasks : List Task) (last : ℕ) (task : Task) (edits : List Edit) (lane : ℕ) → last < length tasks →
    task ≡ get_or tasks last task →
    lane_count lane (set tasks last (record task { edits = edits })) ≡ lane_count lane tasks
lane_count-edit tasks last task edits lane below e =
    let f : Task → ℕ = λ t. cond (t.lane == lane) 1 0 in
    let sums : sum_by f (set tasks last (record task { edits = edits })) + f (get_or tasks last task) ≡ sum_by f tasks + f task
    = sum_by-set f tasks last (record task { edits = edits }) task below in
    let same : f (get_or tasks last task) ≡ f task = ap f (sym e) in
    omega arith

-- what holds at a place of a list in which one item was changed
changed_at :
    (P : Task → Type 0) (tasks : List Task) (last k : ℕ) (x d : Task) → last < length tasks →
    (k ≡ last) ⊎ (k ≡ last → ⊥) → (k ≡ last → P x) → P (get_or tasks k d) → P (get_or (set tasks last x) k d)
changed_at P tasks last k x d below (inl same) here there =
    subst P (sym (ap (λ (n : ℕ). get_or (set tasks last x) n d) same ∙ get_or-set_same tasks last x d below)) (here same)
changed_at P tasks last k x d below (inr apart) here there =
    subst P (sym (get_or-set_other tasks last k x d apart)) there

-- an edit leaves the numbers of the tasks
numbered_edit :
    (tasks : List Task) (last : ℕ) (task : Task) (edits : List Edit) → length tasks ≡ last + 1 →
    task ≡ get_or tasks last task → AreNumbered tasks → AreNumbered (set tasks last (record task { edits = edits }))
numbered_edit tasks last task edits whole e numbered k d h =
    let x : Task = record task { edits = edits } in
    let below : last < length tasks = omega arith in
    let inside : k < length tasks = omega (arith, length-set {A = Task}) in
    let front : take k (set tasks last x) ≡ take k tasks = take-set-le k tasks last x (omega arith) in
    let IsNumbered : Task → Type 0 = λ t. t.number ≡ lane_count t.lane (take k tasks) in
    let itself : k ≡ last → IsNumbered x = λ same.
    let read : get_or tasks k task ≡ task = ap (λ (n : ℕ). get_or tasks n task) same ∙ sym e in
    let held : IsNumbered task = subst IsNumbered read (numbered k task inside) in
    held in
    let item : Task = get_or (set tasks last x) k d in
    let here : IsNumbered item = changed_at IsNumbered tasks last k x d below (cases_eq k last) itself (numbered k d inside) in
    here ∙ ap (λ (ts : List Task). lane_count item.lane ts) (sym front)

-- an edit leaves what is kept of the tasks
pub kept_by_edit :
    (counts : List ℕ) (tasks : List Task) (last : ℕ) (task : Task) (edit : Edit) (edits : List Edit) → length tasks ≡ last + 1 →
    task ≡ get_or tasks last task → edits ≡ task.edits ++ edit ∷ [] → IsEdit edit → length edits ≤ MOST_EDITS → IsDraft counts tasks →
    IsDraft counts (set tasks last (record task { edits = edits }))
kept_by_edit counts tasks last task edit edits whole e pushed within room kept =
    let below : last < length tasks = omega arith in
    let here : IsTask task = subst IsTask (sym e) (All-get_or IsTask tasks last task below kept.tasks.each) in
    let each : All IsEdit edits = subst (All IsEdit) (sym pushed) (All-push IsEdit task.edits edit here.each within) in
    let there : IsTask (record task { edits = edits }) = record { lane = here.lane; box = here.box; few = room; each = each } in
    record {
      counts = λ lane inside. kept.counts lane inside ∙ sym (lane_count-edit tasks last task edits lane below e);
      tasks = record {
        few = omega (arith, length-set {A = Task}, kept.tasks.few);
        each = All-set IsTask tasks last (record task { edits = edits }) there kept.tasks.each;
        numbered = numbered_edit tasks last task edits whole e kept.tasks.numbered;
      };
    }
