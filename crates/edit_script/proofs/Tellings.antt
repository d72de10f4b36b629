-- Lines that tell tasks, and the tasks that are read of them.
use Rattle.std.proofs.Common.{◌≡◌, ℕ, ◌+◌, ◌<◌, ◌≤◌, List, [], ◌∷◌, ◌++◌, length, map, take, get_or, Bool, true, false, cond, nat_lt, Option, Some, None, Result, Ok, Err, All, ◌⊎◌, inl, inr, refl, ap, sym, subst, ◌∙◌, append-nil, append_assoc, arith}
use Rattle.std.specs.Prelude.{flat_map}
use Rattle.std.proofs.lemmas.List.{map-append, length-append, get_or_at, get_or_append_left, take_at, take-append-le}
use Rattle.std.proofs.lemmas.List.Elements.{All-nil, All-take, All-push}
use Rattle.std.proofs.lemmas.Grind.{flat_map-append}
use Rattle.std.proofs.lemmas.Bool.Decides.{nat_tests}
use Rattle.oemm_limits.specs.declared.TheConstants.{MOST_EDITS, MOST_SCRIPT_BYTES, MOST_TASKS}
use Rattle.oemm_lines.specs.declared.parts.Line.{Line}
use Rattle.oemm_lines.specs.declared.parts.LineFault.{LineFault}
use Rattle.oemm_octree.specs.declared.points.Point.{Point}
use Rattle.mesh_data.specs.declared.edits.Edit.{Edit}
use Rattle.mesh_data.specs.declared.edits.Task.{Task}
use Rattle.edit_script.specs.declared.fault.ScriptWhy.{ScriptWhy}
use Rattle.edit_script.specs.declared.fault.ScriptWhy.TheVariants.{NoTask}
use Rattle.oemm_limits.specs.declared.what.What.TheVariants.{ScriptBytes, Tasks, Edits}
use Rattle.edit_script.specs.declared.fault.ScriptFault.{ScriptFault}
use Rattle.edit_script.specs.declared.fault.ScriptFault.TheVariants.{Syntax, TooMany}
use Rattle.edit_script.specs.declared.line.LineMeaning.{LineMeaning}
use Rattle.edit_script.specs.declared.line.LineMeaning.TheVariants.{TaskLine, EditLine}
use Rattle.edit_script.specs.Grammar.{with_task, with_edit, edited, next_task, after_line, fault_of_line, script_of, tasks_of, tasks_after, tasks_at_end, lane_count, ◌>>=◌}
use Rattle.edit_script.specs.Ranges.{AreNumbered}
use Rattle.edit_script.specs.Tells.{script_lines, spoken_lines, saying, sayings, telling, HasFewEdits, AreInOrder, Tell, TellsScript}
use Rattle.edit_script.proofs.Tasks.{numbered_task}
use Rattle.edit_script.proofs.Readings.{script_of_short}

-- a step that gives a value
step_ok : {A B : Type 0} (r : Result A ScriptFault) (f : A → Result B ScriptFault) (y : B) → (r >>= f) ≡ Ok y → (x : A) × (r ≡ Ok x) × (f x ≡ Ok y)
step_ok (Ok x) f y is = (x, refl, is)
step_ok (Err fault) f y is = cc

guarded : {A : Type 0} (room : Bool) (x y : A) (fault : ScriptFault) → cond room (Ok x) (Err fault) ≡ Ok y → (room ≡ true) × (y ≡ x)
guarded true x y fault is = (refl, cc)
guarded false x y fault is = cc

ok_value : (x y : List Task) → ◌≡◌ {A = Result (List Task) ScriptFault} (Ok x) (Ok y) → x ≡ y
ok_value x y same = cc

first_of : {A : Type 0} (x y : A) (xs ys : List A) → x ∷ xs ≡ y ∷ ys → x ≡ y
first_of x y xs ys same = cc

rest_of : {A : Type 0} (x y : A) (xs ys : List A) → x ∷ xs ≡ y ∷ ys → xs ≡ ys
rest_of x y xs ys same = cc

is_below : (n m : ℕ) → nat_lt n m ≡ true → n < m
is_below n m h = grind (arith, nat_tests)

edited_ok : (task last : Task) (edit : Edit) → edited task edit ≡ Ok last → (length task.edits < MOST_EDITS) × (last ≡ record task { edits = task.edits ++ edit ∷ [] })
edited_ok task last edit is =
    let p = guarded (nat_lt (length task.edits) MOST_EDITS) (record task { edits = task.edits ++ edit ∷ [] }) last (TooMany Edits (MOST_EDITS + 1)) is in
    (is_below (length task.edits) MOST_EDITS p.0, p.1)

edited_room : (task : Task) (edit : Edit) → length task.edits < MOST_EDITS → edited task edit ≡ Ok (record task { edits = task.edits ++ edit ∷ [] })
edited_room task edit room =
    let open_ : nat_lt (length task.edits) MOST_EDITS ≡ true = grind (arith, nat_tests) in
    ap (λ (b : Bool). cond b (Ok (record task { edits = task.edits ++ edit ∷ [] })) (Err (TooMany Edits (MOST_EDITS + 1)))) open_

-- the last task has one more edit
onto_first : (first : Task) (tasks : List Task) (outcome : Result Task ScriptFault) →
    ((outcome >>= λ last. Ok (tasks ++ last ∷ [])) >>= λ later. Ok (first ∷ later)) ≡ (outcome >>= λ last. Ok (first ∷ tasks ++ last ∷ []))
onto_first first tasks (Ok last) = refl
onto_first first tasks (Err fault) = refl

edit_of_last : (number : ℕ) (tasks : List Task) (task : Task) (edit : Edit) →
    with_edit number (tasks ++ task ∷ []) edit ≡ (edited task edit >>= λ last. Ok (tasks ++ last ∷ []))
unfolding with_edit
edit_of_last number [] task edit = refl
edit_of_last number (first ∷ []) task edit = onto_first first [] (edited task edit)
edit_of_last number (first ∷ next ∷ tasks) task edit =
    ap (λ (outcome : Result (List Task) ScriptFault). outcome >>= λ later. Ok (first ∷ later)) (edit_of_last number (next ∷ tasks) task edit)
    ∙ onto_first first (next ∷ tasks) (edited task edit)

-- a list has no item, or a last one
last_of : (tasks : List Task) → (tasks ≡ []) ⊎ ((front : List Task) × (task : Task) × (tasks ≡ front ++ task ∷ []))
last_of [] = inl refl
last_of (first ∷ tasks) = elim (last_of tasks) [
  | inl none ↦ inr ([], first, ap (λ (ts : List Task). first ∷ ts) none)
  | inr some ↦ inr (first ∷ some.0, some.1, ap (λ (ts : List Task). first ∷ ts) some.2)
]

-- what tells tasks with one more, and a task with one more edit
telling_more : (tasks : List Task) (task : Task) → flat_map telling (tasks ++ task ∷ []) ≡ flat_map telling tasks ++ telling task
telling_more tasks task = flat_map-append telling tasks (task ∷ []) ∙ ap (λ xs. flat_map telling tasks ++ xs) (append-nil (telling task))

telling_edit : (task : Task) (edit : Edit) → telling (record task { edits = task.edits ++ edit ∷ [] }) ≡ telling task ++ Ok (EditLine edit) ∷ []
telling_edit task edit = ap (λ xs. Ok (TaskLine task.lane task.low task.high) ∷ xs) (map-append (λ e. Ok (EditLine e)) task.edits (edit ∷ []))

telling_last : (front : List Task) (task : Task) (edit : Edit) →
    flat_map telling (front ++ record task { edits = task.edits ++ edit ∷ [] } ∷ []) ≡ flat_map telling (front ++ task ∷ []) ++ Ok (EditLine edit) ∷ []
telling_last front task edit =
    telling_more front (record task { edits = task.edits ++ edit ∷ [] })
    ∙ ap (λ xs. flat_map telling front ++ xs) (telling_edit task edit)
    ∙ sym (append_assoc (flat_map telling front) (telling task) (Ok (EditLine edit) ∷ []))
    ∙ ap (λ xs. xs ++ Ok (EditLine edit) ∷ []) (sym (telling_more front task))

-- the tasks before the last are in order, and the last has its number
number_at : (front : List Task) (task : Task) (more : List Task) → AreNumbered (front ++ task ∷ more) → task.number ≡ lane_count task.lane front
number_at front task more numbered =
    let there : get_or (front ++ task ∷ more) (length front) task ≡ task = get_or_at front task more task (length front) refl in
    let before : take (length front) (front ++ task ∷ more) ≡ front = take_at front (task ∷ more) (length front) refl in
    let held = numbered (length front) task (omega (arith, length-append front (task ∷ more))) in
    ap (λ (t : Task). t.number) (sym there) ∙ held
    ∙ ap (λ (t : Task). lane_count t.lane (take (length front) (front ++ task ∷ more))) there
    ∙ ap (λ (ts : List Task). lane_count task.lane ts) before

front_numbered : (front more : List Task) → AreNumbered (front ++ more) → AreNumbered front
front_numbered front more numbered k d h =
    let there : get_or (front ++ more) k d ≡ get_or front k d = get_or_append_left front more d k h in
    let before : take k (front ++ more) ≡ take k front = take-append-le k front more (omega arith) in
    let held = numbered k d (omega (arith, length-append front more)) in
    ap (λ (t : Task). t.number) (sym there) ∙ held
    ∙ ap (λ (t : Task). lane_count t.lane (take k (front ++ more))) there
    ∙ ap (λ (ts : List Task). lane_count (get_or front k d).lane ts) before

-- no task, one task more, and an edit more keep the order
pub none_in_order : AreInOrder []
none_in_order = record { few = omega arith; each = All-nil HasFewEdits; numbered = λ k d h. absurd (omega (arith, h)) }

begun_in_order : (tasks : List Task) (lane : ℕ) (low high : Point) → length tasks < MOST_TASKS → AreInOrder tasks → AreInOrder (tasks ++ next_task tasks lane low high ∷ [])
begun_in_order tasks lane low high room order =
    let task : Task = next_task tasks lane low high in
    record {
      few = omega (arith, length-append tasks (task ∷ []));
      each = All-push HasFewEdits tasks task order.each (omega arith);
      numbered = numbered_task tasks task refl order.numbered;
    }

edited_in_order : (front : List Task) (task : Task) (edit : Edit) → length task.edits < MOST_EDITS → AreInOrder (front ++ task ∷ []) → AreInOrder (front ++ record task { edits = task.edits ++ edit ∷ [] } ∷ [])
edited_in_order front task edit room order =
    let last : Task = record task { edits = task.edits ++ edit ∷ [] } in
    let each : All HasFewEdits front = subst (All HasFewEdits) (take_at front (task ∷ []) (length front) refl) (All-take HasFewEdits (length front) (front ++ task ∷ []) order.each) in
    record {
      few = omega (arith, length-append front (task ∷ []), length-append front (last ∷ []), order.few);
      each = All-push HasFewEdits front last each (omega (arith, length-append task.edits (edit ∷ [])));
      numbered = numbered_task front last (number_at front task [] order.numbered) (front_numbered front (task ∷ []) order.numbered);
    }

-- what a line adds to what tells the tasks
begins : (tasks more : List Task) (lane : ℕ) (low high : Point) → with_task tasks lane low high ≡ Ok more → (length tasks < MOST_TASKS) × (more ≡ tasks ++ next_task tasks lane low high ∷ [])
unfolding with_task
begins tasks more lane low high is =
    let p = guarded (nat_lt (length tasks) MOST_TASKS) (tasks ++ next_task tasks lane low high ∷ []) more (TooMany Tasks (MOST_TASKS + 1)) is in
    (is_below (length tasks) MOST_TASKS p.0, p.1)

no_task_edited : (number : ℕ) (more : List Task) (edit : Edit) → with_edit number [] edit ≡ Ok more → ⊥
unfolding with_edit
no_task_edited number more edit is = cc

edit_tells : (number : ℕ) (tasks more : List Task) (edit : Edit) → (tasks ≡ []) ⊎ ((front : List Task) × (task : Task) × (tasks ≡ front ++ task ∷ [])) → with_edit number tasks edit ≡ Ok more → AreInOrder tasks →
    AreInOrder more × (flat_map telling more ≡ flat_map telling tasks ++ Ok (EditLine edit) ∷ [])
edit_tells number tasks more edit (inl none) is order =
    absurd (no_task_edited number more edit (subst (λ (ts : List Task). with_edit number ts edit ≡ Ok more) none is))
edit_tells number tasks more edit (inr (front, task, same)) is order =
    let here : with_edit number (front ++ task ∷ []) edit ≡ Ok more = subst (λ (ts : List Task). with_edit number ts edit ≡ Ok more) same is in
    let step = step_ok (edited task edit) (λ last. Ok (front ++ last ∷ [])) more (sym (edit_of_last number front task edit) ∙ here) in
    let outcome : Ok (front ++ step.0 ∷ []) ≡ Ok more = step.2 in
    let last = edited_ok task step.0 edit step.1 in
    let is_last : step.0 ≡ record task { edits = task.edits ++ edit ∷ [] } = last.1 in
    let are : front ++ step.0 ∷ [] ≡ more = ok_value (front ++ step.0 ∷ []) more outcome in
    let whole : more ≡ front ++ record task { edits = task.edits ++ edit ∷ [] } ∷ [] = sym are ∙ ap (λ (t : Task). front ++ t ∷ []) is_last in (
      subst AreInOrder (sym whole) (edited_in_order front task edit last.0 (subst AreInOrder same order)),
      ap (flat_map telling) whole ∙ telling_last front task edit
          ∙ ap (λ (ts : List Task). flat_map telling ts ++ Ok (EditLine edit) ∷ []) (sym same),
    )

line_tells : (number : ℕ) (tasks more : List Task) (meaning : Result LineMeaning ScriptWhy) → after_line number tasks meaning ≡ Ok more → AreInOrder tasks →
    AreInOrder more × (flat_map telling more ≡ flat_map telling tasks ++ meaning ∷ [])
line_tells number tasks more (Ok (TaskLine lane low high)) is order =
    let b = begins tasks more lane low high is in (
      subst AreInOrder (sym b.1) (begun_in_order tasks lane low high b.0 order),
      ap (flat_map telling) b.1 ∙ telling_more tasks (next_task tasks lane low high),
    )
line_tells number tasks more (Ok (EditLine edit)) is order = edit_tells number tasks more edit (last_of tasks) is order
line_tells number tasks more (Err why) is order = cc

-- the lines from which these tasks are read tell them
lines_tell : (lines : List Line) (end : Option LineFault) (tasks more : List Task) → tasks_after tasks lines end ≡ Ok more → AreInOrder tasks →
    (end ≡ None) × AreInOrder more × (flat_map telling more ≡ flat_map telling tasks ++ sayings lines)
unfolding tasks_after
lines_tell [] None tasks more is order =
    let same : more ≡ tasks = sym (ok_value tasks more is) in
    (refl, subst AreInOrder (sym same) order, ap (flat_map telling) same ∙ sym (append-nil (flat_map telling tasks)))
lines_tell [] (Some fault) tasks more is order = cc
lines_tell (l ∷ lines) end tasks more is order =
    let step = step_ok (after_line l.number tasks (saying l)) (λ next. tasks_after next lines end) more is in
    let one = line_tells l.number tasks step.0 (saying l) step.1 order in
    let rest = lines_tell lines end step.0 more step.2 one.0 in (
      rest.0,
      rest.1,
      rest.2 ∙ ap (λ xs. xs ++ sayings lines) one.1 ∙ append_assoc (flat_map telling tasks) (saying l ∷ []) (sayings lines),
    )

-- lines that tell edits add them to the last task
edit_read : (l : Line) (lines : List Line) (end : Option LineFault) (front : List Task) (task : Task) (edit : Edit) →
    saying l ≡ Ok (EditLine edit) → length task.edits < MOST_EDITS →
    tasks_after (front ++ task ∷ []) (l ∷ lines) end ≡ tasks_after (front ++ record task { edits = task.edits ++ edit ∷ [] } ∷ []) lines end
unfolding tasks_after
edit_read l lines end front task edit says room =
    ap (λ (meaning : Result LineMeaning ScriptWhy). after_line l.number (front ++ task ∷ []) meaning >>= λ more. tasks_after more lines end) says
    ∙ ap (λ (outcome : Result (List Task) ScriptFault). outcome >>= λ more. tasks_after more lines end)
    (edit_of_last l.number front task edit
    ∙ ap (λ (outcome : Result Task ScriptFault). outcome >>= λ last. Ok (front ++ last ∷ [])) (edited_room task edit room))

edits_read : (edits : List Edit) (lines : List Line) (rest : List (Result LineMeaning ScriptWhy)) (front : List Task) (task : Task) (all : List Edit) (end : Option LineFault) →
    sayings lines ≡ map (λ edit. Ok (EditLine edit)) edits ++ rest → task.edits ++ edits ≡ all → length all ≤ MOST_EDITS →
    (later : List Line) × (sayings later ≡ rest)
    × (tasks_after (front ++ task ∷ []) lines end ≡ tasks_after (front ++ record task { edits = all } ∷ []) later end)
edits_read [] lines rest front task all end told same few =
    (lines, told, ap (λ (edits : List Edit). tasks_after (front ++ record task { edits = edits } ∷ []) lines end) (sym (append-nil task.edits) ∙ same))
edits_read (edit ∷ edits) [] rest front task all end told same few = cc
edits_read (edit ∷ edits) (l ∷ lines) rest front task all end told same few =
    let says : saying l ≡ Ok (EditLine edit) = first_of (saying l) (Ok (EditLine edit)) (sayings lines) (map (λ edit. Ok (EditLine edit)) edits ++ rest) told in
    let after : sayings lines ≡ map (λ edit. Ok (EditLine edit)) edits ++ rest = rest_of (saying l) (Ok (EditLine edit)) (sayings lines) (map (λ edit. Ok (EditLine edit)) edits ++ rest) told in
    let size : length (task.edits ++ edit ∷ edits) ≡ length all = ap (λ (es : List Edit). length es) same in
    let room : length task.edits < MOST_EDITS = omega (arith, length-append task.edits (edit ∷ edits), size, few) in
    let on = edits_read edits lines rest front (record task { edits = task.edits ++ edit ∷ [] }) all end after (append_assoc task.edits (edit ∷ []) edits ∙ same) few in
    (on.0, on.1, edit_read l lines end front task edit says room ∙ on.2)

-- a line that tells a task begins it
task_read : (l : Line) (lines : List Line) (end : Option LineFault) (tasks : List Task) (lane : ℕ) (low high : Point) →
    saying l ≡ Ok (TaskLine lane low high) → length tasks < MOST_TASKS →
    tasks_after tasks (l ∷ lines) end ≡ tasks_after (tasks ++ next_task tasks lane low high ∷ []) lines end
unfolding tasks_after with_task
task_read l lines end tasks lane low high says room =
    let open_ : nat_lt (length tasks) MOST_TASKS ≡ true = grind (arith, nat_tests) in
    ap (λ (meaning : Result LineMeaning ScriptWhy). after_line l.number tasks meaning >>= λ more. tasks_after more lines end) says
    ∙ ap (λ (b : Bool). cond b (Ok (tasks ++ next_task tasks lane low high ∷ [])) (Err (TooMany Tasks (MOST_TASKS + 1))) >>= λ more. tasks_after more lines end) open_

-- lines that tell tasks are read as these
tasks_at_lines : (tasks : List Task) (end : Option LineFault) → tasks_after tasks [] end ≡ tasks_at_end tasks end
unfolding tasks_after
tasks_at_lines tasks end = refl

lines_read : (more : List Task) (lines : List Line) (front : List Task) (end : Option LineFault) → sayings lines ≡ flat_map telling more → AreInOrder (front ++ more) →
    tasks_after front lines end ≡ tasks_at_end (front ++ more) end
lines_read [] [] front end told order =
    tasks_at_lines front end ∙ ap (λ (ts : List Task). tasks_at_end ts end) (sym (append-nil front))
lines_read [] (l ∷ lines) front end told order = cc
lines_read (task ∷ more) [] front end told order = cc
lines_read (task ∷ more) (l ∷ lines) front end told order =
    let head : Result LineMeaning ScriptWhy = Ok (TaskLine task.lane task.low task.high) in
    let behind : List (Result LineMeaning ScriptWhy) = map (λ edit. Ok (EditLine edit)) task.edits ++ flat_map telling more in
    let says : saying l ≡ head = first_of (saying l) head (sayings lines) behind told in
    let after : sayings lines ≡ behind = rest_of (saying l) head (sayings lines) behind told in
    let new : Task = next_task front task.lane task.low task.high in
    let size = length-append front (task ∷ more) in
    let room : length front < MOST_TASKS = omega (arith, size, order.few) in
    let there : get_or (front ++ task ∷ more) (length front) task ≡ task = get_or_at front task more task (length front) refl in
    let few : HasFewEdits task = subst HasFewEdits there (order.each (length front) task (omega (arith, size))) in
    let on = edits_read task.edits lines (flat_map telling more) front new task.edits end after refl few in
    let number : task.number ≡ lane_count task.lane front = number_at front task more order.numbered in
    let whole : record new { edits = task.edits } ≡ task = ap (λ (n : ℕ). record task { number = n }) (sym number) in
    let same : front ++ task ∷ [] ++ more ≡ front ++ task ∷ more = append_assoc front (task ∷ []) more in
    task_read l lines end front task.lane task.low task.high says room
    ∙ on.2
    ∙ ap (λ (t : Task). tasks_after (front ++ t ∷ []) on.0 end) whole
    ∙ lines_read more on.0 (front ++ task ∷ []) end on.1 (subst AreInOrder (sym same) order)
    ∙ ap (λ (ts : List Task). tasks_at_end ts end) same

-- what stands in front is read first
read_through : (outcome : Result (List Task) ScriptFault) (f g h : List Task → Result (List Task) ScriptFault) → ((tasks : List Task) → f tasks ≡ (g tasks >>= h)) →
    (outcome >>= f) ≡ ((outcome >>= g) >>= h)
read_through (Ok tasks) f g h same = same tasks
read_through (Err fault) f g h same = refl

read_in_two : (lines later : List Line) (end : Option LineFault) (tasks : List Task) → tasks_after tasks (lines ++ later) end ≡ (tasks_after tasks lines None >>= λ more. tasks_after more later end)
unfolding tasks_after
read_in_two [] later end tasks = refl
read_in_two (l ∷ lines) later end tasks =
    read_through (after_line l.number tasks (saying l)) (λ more. tasks_after more (lines ++ later) end) (λ more. tasks_after more lines None) (λ more. tasks_after more later end)
    (λ more. read_in_two lines later end more)

-- a script that tells tasks is read as these, and each that is read tells them
short_of : (long : Bool) (rest : Result (List Task) ScriptFault) (fault : ScriptFault) (tasks : List Task) → cond long (Err fault) rest ≡ Ok tasks → long ≡ false
short_of true rest fault tasks is = cc
short_of false rest fault tasks is = refl

is_short : (bytes : List ℕ) (tasks : List Task) → script_of bytes ≡ Ok tasks → length bytes ≤ MOST_SCRIPT_BYTES
unfolding script_of
is_short bytes tasks is =
    let within : nat_lt MOST_SCRIPT_BYTES (length bytes) ≡ false = short_of (nat_lt MOST_SCRIPT_BYTES (length bytes)) (tasks_of [] (script_lines bytes)) (TooMany ScriptBytes MOST_SCRIPT_BYTES) tasks is in
    grind (arith, nat_tests)

pub script_read : (bytes : List ℕ) (tasks : List Task) → TellsScript bytes tasks → script_of bytes ≡ Ok tasks
script_read bytes tasks tells =
    script_of_short bytes tells.short
    ∙ lines_read tasks (spoken_lines bytes) [] (script_lines bytes).fault tells.told.0 tells.told.1
    ∙ ap (tasks_at_end tasks) tells.whole

pub script_told : (bytes : List ℕ) (tasks : List Task) → script_of bytes ≡ Ok tasks → TellsScript bytes tasks
script_told bytes tasks is =
    let short : length bytes ≤ MOST_SCRIPT_BYTES = is_short bytes tasks is in
    let told = lines_tell (spoken_lines bytes) (script_lines bytes).fault [] tasks (sym (script_of_short bytes short) ∙ is) none_in_order in
    record { short = short; whole = told.0; told = (sym told.2, told.1) }

-- a fault behind lines that tell tasks
stopped : (l : Line) (later : List Line) (end : Option LineFault) (tasks : List Task) (fault : ScriptFault) → after_line l.number tasks (saying l) ≡ Err fault → tasks_after tasks (l ∷ later) end ≡ Err fault
unfolding tasks_after
stopped l later end tasks fault is = ap (λ (outcome : Result (List Task) ScriptFault). outcome >>= λ more. tasks_after more later end) is

pub script_stops : (bytes : List ℕ) (lines later : List Line) (l : Line) (tasks : List Task) (fault : ScriptFault) →
    length bytes ≤ MOST_SCRIPT_BYTES → spoken_lines bytes ≡ lines ++ l ∷ later → Tell lines tasks → after_line l.number tasks (saying l) ≡ Err fault → script_of bytes ≡ Err fault
script_stops bytes lines later l tasks fault short spoken told is =
    let end : Option LineFault = (script_lines bytes).fault in
    script_of_short bytes short
    ∙ ap (λ (ls : List Line). tasks_after [] ls end) spoken
    ∙ read_in_two lines (l ∷ later) end []
    ∙ ap (λ (outcome : Result (List Task) ScriptFault). outcome >>= λ more. tasks_after more (l ∷ later) end) (lines_read tasks lines [] None told.0 told.1)
    ∙ stopped l later end tasks fault is

-- what a line says that is refused
pub refused_line : (l : Line) (tasks : List Task) (why : ScriptWhy) → saying l ≡ Err why → after_line l.number tasks (saying l) ≡ Err (Syntax l.number why)
refused_line l tasks why says = ap (after_line l.number tasks) says

pub refused_first : (l : Line) (edit : Edit) → saying l ≡ Ok (EditLine edit) → after_line l.number [] (saying l) ≡ Err (Syntax l.number NoTask)
unfolding with_edit
refused_first l edit says = ap (after_line l.number []) says

pub refused_task : (l : Line) (tasks : List Task) (lane : ℕ) (low high : Point) → saying l ≡ Ok (TaskLine lane low high) → MOST_TASKS ≤ length tasks → after_line l.number tasks (saying l) ≡ Err (TooMany Tasks (MOST_TASKS + 1))
unfolding with_task
refused_task l tasks lane low high says full =
    let closed : nat_lt (length tasks) MOST_TASKS ≡ false = grind (arith, nat_tests) in
    ap (after_line l.number tasks) says
    ∙ ap (λ (b : Bool). cond b (Ok (tasks ++ next_task tasks lane low high ∷ [])) (Err (TooMany Tasks (MOST_TASKS + 1)))) closed

pub refused_edit : (l : Line) (tasks : List Task) (task : Task) (edit : Edit) → saying l ≡ Ok (EditLine edit) → MOST_EDITS ≤ length task.edits → after_line l.number (tasks ++ task ∷ []) (saying l) ≡ Err (TooMany Edits (MOST_EDITS + 1))
refused_edit l tasks task edit says full =
    let closed : nat_lt (length task.edits) MOST_EDITS ≡ false = grind (arith, nat_tests) in
    ap (after_line l.number (tasks ++ task ∷ [])) says
    ∙ edit_of_last l.number tasks task edit
    ∙ ap (λ (b : Bool). cond b (Ok (record task { edits = task.edits ++ edit ∷ [] })) (Err (TooMany Edits (MOST_EDITS + 1))) >>= λ last. Ok (tasks ++ last ∷ [])) closed

-- a line that is too long behind lines that tell tasks, and a script that is too long
pub long_line : (bytes : List ℕ) (tasks : List Task) (fault : LineFault) → length bytes ≤ MOST_SCRIPT_BYTES → Tell (spoken_lines bytes) tasks → (script_lines bytes).fault ≡ Some fault →
    script_of bytes ≡ Err (fault_of_line fault)
long_line bytes tasks fault short told is =
    script_of_short bytes short
    ∙ lines_read tasks (spoken_lines bytes) [] (script_lines bytes).fault told.0 told.1
    ∙ ap (tasks_at_end tasks) is
