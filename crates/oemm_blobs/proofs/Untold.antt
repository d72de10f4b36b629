-- A store that doesn't tell what crashes leave says of each content that it may be left. It is never calm.
use Rattle.std.proofs.Common.{◌≡◌, inl, ℕ, ◌≤◌, List, [], Some, None, Result, Ok, Err, OnOk, OnErr, sym, ap, ◌∙◌}
use Rattle.std.specs.Option.{option_map}
use Rattle.oemm_blobs.specs.Content.{Content, no_content, blob_at, with_blob, with_change}
use Rattle.oemm_blobs.specs.Store.{StoreState, IsCalmWith, Elapses, Changes, Keeps}
use Rattle.oemm_blobs.specs.declared.blobs.StoreFail.{StoreFail}
use Rattle.oemm_blobs.specs.declared.keys.Change.{Change}
use Rattle.oemm_blobs.specs.declared.keys.Key.TheVariants.{Index}
use Rattle.oemm_blobs.proofs.ContentLaws.{at_with_blob, at_no_content}

abbrev pub LeavesAny : StoreState → Type 0
LeavesAny s = (time : ℕ) (left : Content) → s.left_since time left

some_is_none : {blob : List ℕ} → Some blob ≡ None → ⊥
some_is_none e = cc

-- there are two contents
two_contents : with_blob Index (Some []) no_content ≡ no_content → ⊥
two_contents e =
    some_is_none
    (sym (at_with_blob Index Index (Some []) no_content) ∙ ap (λ (m : Content). blob_at m Index) e
    ∙ at_no_content Index)

pub never_calm : (s : StoreState) (content : Content) → LeavesAny s → IsCalmWith s content → ⊥
never_calm s content any calm =
    two_contents (calm.alone (with_blob Index (Some []) no_content) (any s.clock _)
    ∙ sym (calm.alone no_content (any s.clock _)))

module _ (old new : StoreState) (before : LeavesAny old) (after : LeavesAny new) where
  pub untold_time : old.clock ≤ new.clock → Elapses old new
  untold_time later = record {
    later = later;
    no_other = λ time left le was. inl (before time left);
    still = λ time left le was. after time left;
    besides = λ time left le was. after time left;
  }

  pub untold_changes :
      {T : Type 0} (change : Change) (result : Result T StoreFail) →
      OnOk result (new.content ≡ option_map (with_change change) old.content) →
      OnErr result (new.content ≡ old.content) →
      Changes change old new result
  untold_changes change (Ok v) ok err = record {
    ok = ok;
    err = tt;
    crash = λ content calm. absurd (never_calm old content before calm);
    calm = λ content calm. absurd (never_calm old content before calm);
  }
  untold_changes change (Err e) ok err = record {
    ok = tt;
    err = err;
    crash = λ content calm. absurd (never_calm old content before calm);
    calm = tt;
  }

  pub untold_keeps : new.content ≡ old.content → Keeps old new
  untold_keeps same = record {
    content = same;
    crash = λ content calm. absurd (never_calm old content before calm);
    calm = λ content calm. absurd (never_calm old content before calm);
  }
