-- Changes one after another.
use Rattle.std.proofs.Common.{◌≡◌, ◌⊎◌, inl, inr, ⊎_elim, ℕ, ◌+◌, ◌<◌, length, get_or, take, drop, false, cond}
use Rattle.std.proofs.Common.{Bool, List, [], ◌∷◌, ◌++◌, refl, sym, ap, ◌∙◌, subst, append_assoc, append-nil}
use Rattle.std.proofs.Common.{Option, Some, None, Result, Ok, Err, IsErr}
use Rattle.std.specs.List.{AllByRecursion}
use Rattle.std.specs.Option.{option_map}
use Rattle.std.proofs.lemmas.Bool.{false≢true}
use Rattle.std.proofs.lemmas.List.{take-append-drop, take_more, same_from_push}
use Rattle.oemm_blobs.specs.declared.blobs.StoreFail.{StoreFail}
use Rattle.oemm_blobs.specs.declared.keys.Change.{Change}
use Rattle.oemm_blobs.specs.declared.keys.Key.{Key}
use Rattle.oemm_blobs.specs.Content.{Content, is_same_key, blob_at, with_change, changed}
use Rattle.oemm_blobs.specs.Store.{StoreState, IsCalmWith, LeavesOnly, Changes, Keeps, IsAfterPrefix, StopsBefore}
use Rattle.oemm_blobs.specs.Store.{ChangesInTurn}
use Rattle.oemm_blobs.proofs.ContentLaws.{at_with_blob}
use Rattle.oemm_blobs.proofs.Crashes.{at_start, then_leaves, weakened}

pub changed-push :
    (changes : List Change) (change : Change) (content : Content) →
    changed (changes ++ change ∷ []) content ≡ with_change change (changed changes content)
changed-push [] change content = refl
changed-push (first ∷ changes) change content = changed-push changes change (with_change first content)

told_none : (told : Option Content) → told ≡ option_map (changed []) told
told_none None = refl
told_none (Some content) = refl

told_push :
    (changes : List Change) (change : Change) (told : Option Content) →
    option_map (with_change change) (option_map (changed changes) told) ≡
    option_map (changed (changes ++ change ∷ [])) told
told_push changes change None = refl
told_push changes change (Some content) = ap Some (sym (changed-push changes change content))

-- no change
pub none_yet : {T : Type 0} (s : StoreState) (v : T) → ChangesInTurn [] s s (Ok v)
none_yet s v = record {
  ok = told_none s.content;
  err = tt;
  crash = λ content calm. at_start s (IsAfterPrefix [] content)
      (λ left was. record { done = []; rest = []; split = refl; is = calm.alone left was });
  calm = λ content calm. calm;
}

-- a prefix is a prefix of more changes
pub longer_prefix :
    (changes more : List Change) (content left : Content) → IsAfterPrefix changes content left →
    IsAfterPrefix (changes ++ more) content left
longer_prefix changes more content left prefix = record {
  done = prefix.done;
  rest = prefix.rest ++ more;
  split = sym (append_assoc prefix.done prefix.rest more) ∙ ap (λ (l : List Change). l ++ more) prefix.split;
  is = prefix.is;
}

module _ {T : Type 0} (changes : List Change) (old mid new : StoreState) (v : T)
    (so_far : ChangesInTurn changes old mid (Ok v)) where
  more_crash :
      {U : Type 0} (change : Change) (r : Result U StoreFail) → Changes change mid new r → (content : Content) →
      IsCalmWith old content →
      LeavesOnly old new (IsAfterPrefix (changes ++ change ∷ []) content)
  more_crash change r step content calm =
      let all = changes ++ change ∷ [] in
      let now = changed changes content in
      then_leaves old mid new (IsAfterPrefix changes content) (IsAfterPrefix all content) (IsAfterPrefix all content)
      (so_far.crash content calm)
      (weakened mid new (λ left. (left ≡ now) ⊎ (left ≡ with_change change now)) (IsAfterPrefix all content)
      (step.crash now (so_far.calm content calm)) (λ left is.
      ⊎_elim
      (λ e. record { done = changes; rest = change ∷ []; split = refl; is = e })
      (λ e. record {
        done = all;
        rest = [];
        split = append-nil all;
        is = e ∙ sym (changed-push changes change content);
      })
      is))
      (λ left is. longer_prefix changes (change ∷ []) content left is) (λ left is. is)

  -- one change more, whatever was answered
  pub one_more : {U : Type 0} (change : Change) (r : Result U StoreFail) → Changes change mid new r →
      ChangesInTurn (changes ++ change ∷ []) old new r
  one_more change (Ok w) step = record {
    ok = step.ok ∙ ap (option_map (with_change change)) so_far.ok ∙ told_push changes change old.content;
    err = tt;
    crash = more_crash change (Ok w) step;
    calm = λ content calm.
        subst (IsCalmWith new) (sym (changed-push changes change content))
        (step.calm (changed changes content) (so_far.calm content calm));
  }
  one_more change (Err e) step = record {
    ok = tt;
    err = record { done = changes; refused = change; rest = []; split = refl; is = step.err ∙ so_far.ok };
    crash = more_crash change (Err e) step;
    calm = tt;
  }

  -- what is asked for besides changes nothing
  pub kept_after : {U : Type 0} (w : U) → Keeps mid new → ChangesInTurn changes old new (Ok w)
  kept_after w step = record {
    ok = step.content ∙ so_far.ok;
    err = tt;
    crash = λ content calm.
        then_leaves old mid new (IsAfterPrefix changes content) (λ left. left ≡ changed changes content)
        (IsAfterPrefix changes content)
        (so_far.crash content calm) (step.crash (changed changes content) (so_far.calm content calm))
        (λ left is. is) (λ left is. record { done = changes; rest = []; split = append-nil changes; is = is });
    calm = λ content calm. step.calm (changed changes content) (so_far.calm content calm);
  }

-- after a refusal no more is asked for
pub stopped :
    {T U : Type 0} (changes more : List Change) (old new : StoreState) (e : StoreFail) (r : Result U StoreFail) →
    IsErr r →
    ChangesInTurn {T = T} changes old new (Err e) → ChangesInTurn (changes ++ more) old new r
stopped changes more old new e (Ok v) is turn = absurd (false≢true is)
stopped changes more old new e (Err d) is turn = record {
  ok = tt;
  err = record {
    done = turn.err.done;
    refused = turn.err.refused;
    rest = turn.err.rest ++ more;
    split = sym (append_assoc turn.err.done (turn.err.refused ∷ turn.err.rest) more)
        ∙ ap (λ (l : List Change). l ++ more) turn.err.split;
    is = turn.err.is;
  };
  crash = λ content calm.
      weakened old new (IsAfterPrefix changes content) (IsAfterPrefix (changes ++ more) content)
      (turn.crash content calm) (λ left is. longer_prefix changes more content left is);
  calm = tt;
}

-- a loop over the changes of a list
module _ (all : List Change) (i : ℕ) (change : Change) (is : change ≡ get_or all i change) (lt : i < length all) where
  next_change : take (i + 1) all ≡ take i all ++ change ∷ []
  next_change = take_more all i change lt ∙ ap (λ (c : Change). take i all ++ c ∷ []) (sym is)

  pub changed_next : (content : Content) →
      changed (take (i + 1) all) content ≡ with_change change (changed (take i all) content)
  changed_next content =
      ap (λ (l : List Change). changed l content) next_change ∙ changed-push (take i all) change content

  pub turn_next :
      (old mid new : StoreState) {T U : Type 0} (v : T) (w : U) → ChangesInTurn (take i all) old mid (Ok v) →
      Changes change mid new (Ok w) →
      ChangesInTurn (take (i + 1) all) old new (Ok w)
  turn_next old mid new {T} {U} v w turn step =
      subst (λ (l : List Change). ChangesInTurn {T = U} l old new (Ok w)) (sym next_change)
      (one_more (take i all) old mid new v turn change (Ok w) step)

  pub turn_stops :
      (old mid new : StoreState) {T U V : Type 0} (v : T) (e : StoreFail) (r : Result V StoreFail) → IsErr r →
      ChangesInTurn (take i all) old mid (Ok v) →
      Changes {T = U} change mid new (Err e) → ChangesInTurn all old new r
  turn_stops old mid new {T} {U} {V} v e r err turn step =
      let whole : (take i all ++ change ∷ []) ++ drop (i + 1) all ≡ all =
      ap (λ (l : List Change). l ++ drop (i + 1) all) (sym next_change) ∙ take-append-drop (i + 1) all in
      subst (λ (l : List Change). ChangesInTurn {T = V} l old new r) whole
      (stopped {T = U} (take i all ++ change ∷ []) (drop (i + 1) all) old new e r err
      (one_more (take i all) old mid new v turn change (Err e) step))

-- a list that isn't empty has a last item
record Last {X : Type 0} (xs : List X) : Type 0 where
  prefix : List X
  last : X
  is : xs ≡ prefix ++ last ∷ []

last_of : {X : Type 0} (x : X) (xs : List X) → Last (x ∷ xs)
last_of x [] = record { prefix = []; last = x; is = refl }
last_of x (y ∷ ys) = let rest = last_of y ys in
    record { prefix = x ∷ rest.prefix; last = rest.last; is = ap (λ (l : List _). x ∷ l) rest.is }

-- a prefix that something is behind lacks the last of the changes
lacks_last :
    (changes : List Change) (last : Change) (content left : Content) (done : List Change) (next : Change)
    (rest : List Change) →
    done ++ next ∷ rest ≡ changes ++ last ∷ [] → left ≡ changed done content → IsAfterPrefix changes content left
lacks_last changes last content left done next rest split is =
    let end = last_of next rest in
    let joined : (done ++ end.prefix) ++ end.last ∷ [] ≡ changes ++ last ∷ [] =
    append_assoc done end.prefix (end.last ∷ []) ∙ ap (λ (l : List Change). done ++ l) (sym end.is) ∙ split in
    let prefix = (same_from_push (done ++ end.prefix) changes end.last last joined).0 in
    record { done = done; rest = end.prefix; split = prefix; is = is }

by_rest :
    (changes : List Change) (last : Change) (content left : Content) (done rest : List Change) →
    done ++ rest ≡ changes ++ last ∷ [] →
    left ≡ changed done content → IsAfterPrefix changes content left ⊎ (left ≡ changed (changes ++ last ∷ []) content)
by_rest changes last content left done [] split is =
    inr (is ∙ ap (λ (l : List Change). changed l content) (sym (append-nil done) ∙ split))
by_rest changes last content left done (next ∷ rest) split is =
    inl (lacks_last changes last content left done next rest split is)

-- what stands after a prefix of changes lacks the last of them, or has them all
pub prefix_or_all :
    (changes : List Change) (last : Change) (content left : Content) →
    IsAfterPrefix (changes ++ last ∷ []) content left →
    IsAfterPrefix changes content left ⊎ (left ≡ changed (changes ++ last ∷ []) content)
prefix_or_all changes last content left prefix =
    by_rest changes last content left prefix.done prefix.rest prefix.split prefix.is

-- what is told after a refusal lacks the last of the changes
pub stops_short :
    (changes : List Change) (last : Change) (content left : Content) →
    StopsBefore (changes ++ last ∷ []) (Some content) (Some left) →
    IsAfterPrefix changes content left
stops_short changes last content left stops =
    lacks_last changes last content left stops.done stops.refused stops.rest stops.split (inside stops.is)
  where
    inside : {n : Content} → Some left ≡ Some n → left ≡ n
    inside e = cc

-- what stands under a key that no change has
pub spared :
    (changes : List Change) (key : Key) (content : Content) →
    AllByRecursion (λ (change : Change). is_same_key change.key key ≡ false) changes →
    blob_at (changed changes content) key ≡ blob_at content key
spared [] key content others = refl
spared (change ∷ changes) key content others =
    spared changes key (with_change change content) others.1
    ∙ at_with_blob change.key key change.bytes content
    ∙ ap (λ (b : Bool). cond b change.bytes (blob_at content key)) others.0
