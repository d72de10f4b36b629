-- What crashes leave of a store that keeps its changes.
use Rattle.std.proofs.Common.{◌≡◌, inl, inr, ⊎_elim, ◌⊎◌, ℕ, ◌+◌, ◌≤◌, List, [], ◌∷◌, ◌++◌, length, Some, Ok, Err}
use Rattle.std.proofs.Common.{sym, ap, ◌∙◌, subst, arith, length-append}
use Rattle.std.proofs.lemmas.Bool.{cases_lt}
use Rattle.std.proofs.lemmas.List.{take_all, take-append-le}
use Rattle.oemm_blobs.specs.declared.blobs.StoreFail.{StoreFail}
use Rattle.oemm_blobs.specs.declared.keys.Change.{Change}
use Rattle.oemm_blobs.specs.Content.{Content, no_content, with_change, changed}
use Rattle.oemm_blobs.specs.Store.{Elapses, Changes, Keeps}
use Rattle.oemm_blobs.specs.History.{History, WasSince, content_at, history_store}
use Rattle.oemm_blobs.proofs.Crashes.{in_call, weakened}
use Rattle.oemm_blobs.proofs.InTurn.{changed-push}

at_end : (changes : List Change) (n : ℕ) → length changes ≤ n → content_at changes n ≡ changed changes no_content
at_end changes n le = ap (λ (l : List Change). changed l no_content) (take_all n changes le)

-- since the last change there is what is there now
since_now :
    (changes : List Change) (left : Content) → WasSince changes (length changes) left →
    left ≡ changed changes no_content
since_now changes left was = was.is ∙ at_end changes was.moment was.since

module _ (changes : List Change) (change : Change) where
  abbrev longer : List Change
  longer = changes ++ change ∷ []

  one_longer : length longer ≡ length changes + 1
  one_longer = length-append changes (change ∷ [])

  as_before : (n : ℕ) → n ≤ length changes → content_at longer n ≡ content_at changes n
  as_before n le = ap (λ (l : List Change). changed l no_content) (take-append-le n changes (change ∷ []) le)

  was_before :
      (time : ℕ) (left : Content) → WasSince longer time left →
      WasSince changes time left ⊎ WasSince longer (length changes) left
  was_before time left was = elim (cases_lt (length changes) was.moment) [
    | inl late ↦ inr (record { moment = was.moment; since = omega arith; until = was.until; is = was.is })
    | inr early ↦ inl (record {
      moment = was.moment;
      since = was.since;
      until = early;
      is = was.is ∙ as_before was.moment early;
    })
  ]

  was_still : (time : ℕ) (left : Content) → WasSince changes time left → WasSince longer time left
  was_still time left was = record {
    moment = was.moment;
    since = was.since;
    until = omega (arith, was.until, one_longer);
    is = was.is ∙ sym (as_before was.moment was.until);
  }

  -- what a crash leaves during the change
  was_during :
      (left : Content) → WasSince longer (length changes) left →
      (left ≡ changed changes no_content) ⊎ (left ≡ with_change change (changed changes no_content))
  was_during left was = elim (cases_lt (length changes) was.moment) [
    | inl late ↦ inr (was.is ∙ at_end longer was.moment (omega (arith, one_longer))
        ∙ changed-push changes change no_content)
    | inr early ↦ inl (was.is ∙ as_before was.moment early ∙ at_end changes was.moment was.since)
  ]

same_inside : (m n : Content) → Some m ≡ Some n → m ≡ n
same_inside m n e = cc

module _ (old new : History) where
  module _ (same : new.changes ≡ old.changes) where
    pub time_same : Elapses (history_store old) (history_store new)
    time_same = record {
      later = omega (arith, ap length same);
      no_other = λ time left le was. inl (subst (λ (l : List Change). WasSince l time left) same was);
      still = λ time left le was. subst (λ (l : List Change). WasSince l time left) (sym same) was;
      besides = λ time left le was. record {
        moment = was.moment;
        since = omega (arith, le, was.since);
        until = was.until;
        is = was.is;
      };
    }

    told_same : Some (changed new.changes no_content) ≡ Some (changed old.changes no_content)
    told_same = ap (λ (l : List Change). Some (changed l no_content)) same

    pub keeps_history : Keeps (history_store old) (history_store new)
    keeps_history = record {
      content = told_same;
      crash = λ content calm.
          in_call (history_store old) (history_store new) _ time_same (λ left was.
          calm.alone left (subst (λ (l : List Change). WasSince l (length old.changes) left) same was));
      calm = λ content calm. record {
        told = told_same ∙ calm.told;
        alone = λ left was. calm.alone left (subst (λ (l : List Change). WasSince l (length l) left) same was);
      };
    }

    pub changes_none :
        {T : Type 0} (change : Change) (e : StoreFail) →
        Changes {T = T} change (history_store old) (history_store new) (Err e)
    changes_none change e = record {
      ok = tt;
      err = told_same;
      crash = λ content calm.
          weakened (history_store old) (history_store new) (λ left. left ≡ content) _
          (keeps_history.crash content calm) (λ left is. inl is);
      calm = tt;
    }

  module _ (change : Change) (more : new.changes ≡ old.changes ++ change ∷ []) where
    pub time_push : Elapses (history_store old) (history_store new)
    time_push = record {
      later = omega (arith, ap length more, one_longer old.changes change);
      no_other = λ time left le was.
          ⊎_elim
          (λ early. inl early)
          (λ late. inr (subst (λ (l : List Change). WasSince l (length old.changes) left) (sym more) late))
          (was_before old.changes change time left (subst (λ (l : List Change). WasSince l time left) more was));
      still = λ time left le was.
          subst (λ (l : List Change). WasSince l time left) (sym more) (was_still old.changes change time left was);
      besides = λ time left le was. record {
        moment = was.moment;
        since = omega (arith, le, was.since);
        until = was.until;
        is = was.is;
      };
    }

    told_push : Some (changed new.changes no_content) ≡ Some (with_change change (changed old.changes no_content))
    told_push =
        ap (λ (l : List Change). Some (changed l no_content)) more
        ∙ ap Some (changed-push old.changes change no_content)

    pub changes_push : {T : Type 0} (v : T) → Changes change (history_store old) (history_store new) (Ok v)
    changes_push v = record {
      ok = told_push;
      err = tt;
      crash = λ content calm.
          let is = same_inside (changed old.changes no_content) content calm.told in
          in_call (history_store old) (history_store new) _ time_push (λ left was.
          subst (λ (m : Content). (left ≡ m) ⊎ (left ≡ with_change change m)) is
          (was_during old.changes change left
          (subst (λ (l : List Change). WasSince l (length old.changes) left) more was)));
      calm = λ content calm.
          let was = same_inside (changed old.changes no_content) content calm.told in
          let now : changed new.changes no_content ≡ with_change change content =
          same_inside _ _ told_push ∙ ap (with_change change) was in
          record { told = ap Some now; alone = λ left was. since_now new.changes left was ∙ now };
    }
