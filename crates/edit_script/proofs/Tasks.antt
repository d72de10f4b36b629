-- The tasks with one more, and the numbers of the tasks of each lane.
use Rattle.std.proofs.Common.{◌≡◌, ℕ, ◌+◌, ◌<◌, ◌≤◌, List, [], ◌∷◌, ◌++◌, length, refl, set, get_or, arith, ap, sym, ◌∙◌, cond, true, false, slice_index, replicate, Bool, ◌==◌, ◌≢◌, take, ◌⊎◌, inl, inr}
use Rattle.std.proofs.lemmas.List.Sums.{sum_by_push}
use Rattle.std.proofs.lemmas.List.Elements.{All-push, All-nil}
use Rattle.std.proofs.lemmas.List.{length-append, take_at, get_or_push, get_or_append_left, take-append-le, get_or-replicate, get_or-set_same, get_or-set_other}
use Rattle.std.proofs.lemmas.Bool.{eqb-true, eq-eqb, cases_eq}
use Rattle.oemm_limits.specs.declared.TheConstants.{LAST_LANE, MOST_TASKS}
use Rattle.oemm_octree.specs.declared.points.Point.{Point}
use Rattle.mesh_data.specs.declared.edits.Task.{Task}
use Rattle.edit_script.specs.Grammar.{lane_count}
use Rattle.edit_script.specs.Ranges.{IsDraft, IsTask, IsEdit, IsBox, AreNumbered}

-- no task was read
pub draft_of_none : (tasks : List Task) → tasks ≡ [] → IsDraft (replicate 64 0) tasks
draft_of_none [] h = record {
  counts = λ lane below. get_or-replicate 64 lane 0 0 (omega (arith, below));
  tasks = record { few = omega arith; each = All-nil IsTask; numbered = λ k d h. absurd (omega (arith, h)) };
}
draft_of_none (task ∷ tasks) h = cc

true_is_not_false : true ≡ false → ⊥
true_is_not_false h = cc

-- the number of a lane's tasks with one more of some lane
count_at :
    (counts : List ℕ) (tasks : List Task) (lane other : ℕ) → other < 64 → length counts ≡ 64 →
    slice_index counts other ≡ lane_count other tasks →
    slice_index (set counts lane (slice_index counts lane + 1)) other ≡ lane_count other tasks + cond (lane == other) 1 0
count_at counts tasks lane other h size e = by (lane == other) refl
  where
    by : (b : Bool) → (lane == other) ≡ b →
        slice_index (set counts lane (slice_index counts lane + 1)) other ≡ lane_count other tasks + cond b 1 0
    by true t =
        let same : lane ≡ other = eqb-true lane other t in
        let there : lane < length counts = omega arith in
        ap (λ (k : ℕ). slice_index (set counts lane (slice_index counts lane + 1)) k) (sym same)
        ∙ get_or-set_same counts lane (slice_index counts lane + 1) 0 there
        ∙ ap (λ (k : ℕ). slice_index counts k + 1) same
        ∙ ap (λ (n : ℕ). n + 1) e
    by false t =
        let apart : other ≢ lane = λ same. true_is_not_false (sym (eq-eqb lane other (sym same)) ∙ t) in
        get_or-set_other counts lane other (slice_index counts lane + 1) 0 apart ∙ e ∙ omega arith

-- a new task has the next number
pub numbered_task :
    (tasks : List Task) (task : Task) → task.number ≡ lane_count task.lane tasks → AreNumbered tasks →
    AreNumbered (tasks ++ task ∷ [])
numbered_task tasks task n numbered k d h = by (cases_eq k (length tasks))
  where
    whole : List Task
    whole = tasks ++ task ∷ []

    by : (k ≡ length tasks) ⊎ (k ≡ length tasks → ⊥) → (get_or whole k d).number ≡ lane_count (get_or whole k d).lane (take k whole)
    by (inl same) =
        let read : get_or whole k d ≡ task = get_or_push tasks task d k (sym same) in
        let front : take k whole ≡ tasks = take_at tasks (task ∷ []) k (sym same) in
        ap (λ (t : Task). t.number) read ∙ n
        ∙ ap (λ (t : Task). lane_count t.lane tasks) (sym read)
        ∙ ap (λ (ts : List Task). lane_count (get_or whole k d).lane ts) (sym front)
    by (inr apart) =
        let inside : k < length tasks = omega (arith, length-append {A = Task}) in
        let read : get_or whole k d ≡ get_or tasks k d = get_or_append_left tasks (task ∷ []) d k inside in
        let front : take k whole ≡ take k tasks = take-append-le k tasks (task ∷ []) (omega arith) in
        ap (λ (t : Task). t.number) read ∙ numbered k d inside
        ∙ ap (λ (t : Task). lane_count t.lane (take k tasks)) (sym read)
        ∙ ap (λ (ts : List Task). lane_count (get_or whole k d).lane ts) (sym front)

-- a new task leaves what is kept
pub kept_by_task :
    (counts : List ℕ) (tasks : List Task) (lane number : ℕ) (low high : Point) → length counts ≡ 64 → lane ≤ LAST_LANE → IsBox low high →
    length tasks < MOST_TASKS → number ≡ slice_index counts lane → IsDraft counts tasks →
    IsDraft (set counts lane (slice_index counts lane + 1))
    (tasks ++ record { lane = lane; number = number; low = low; high = high; edits = [] } ∷ [])
kept_by_task counts tasks lane number low high size below box room n kept =
    let task : Task = record { lane = lane; number = number; low = low; high = high; edits = [] } in
    let one : IsTask task = record { lane = omega (arith, below); box = box; few = omega arith; each = All-nil IsEdit } in
    record {
      counts = λ other h.
          let more : lane_count other (tasks ++ task ∷ []) ≡ lane_count other tasks + cond (lane == other) 1 0
          = sum_by_push (λ (t : Task). cond (t.lane == other) 1 0) tasks task in
          count_at counts tasks lane other (omega (arith, h)) size (kept.counts other h) ∙ sym more;
      tasks = record {
        few = omega (arith, length-append {A = Task}, kept.tasks.few);
        each = All-push IsTask tasks task kept.tasks.each one;
        numbered = numbered_task tasks task (n ∙ kept.counts lane below) kept.tasks.numbered;
      };
    }
