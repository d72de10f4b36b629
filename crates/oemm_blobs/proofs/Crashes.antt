-- How what crashes leave goes on from call to call.
use Rattle.std.proofs.Common.{◌≡◌, inl, inr, ⊎_elim, refl, ◌∙◌, arith}
use Rattle.oemm_blobs.specs.Content.{Content}
use Rattle.oemm_blobs.specs.Store.{StoreState, Elapses, LeavesOnly, Keeps}

-- before the first call
pub at_start :
    (s : StoreState) (P : Content → Type 0) → ((left : Content) → s.left_since s.clock left → P left) →
    LeavesOnly s s P
at_start s P here = record { later = omega arith; during = here; before = λ time left le was. inl was }

-- one call alone
pub in_call :
    (old new : StoreState) (P : Content → Type 0) → Elapses old new →
    ((left : Content) → new.left_since old.clock left → P left) → LeavesOnly old new P
in_call old new P time here = record {
  later = time.later;
  during = here;
  before = λ t left le was. ⊎_elim (λ early. inl early) (λ late. inr (here left late)) (time.no_other t left le was);
}

-- one call after another
pub then_leaves :
    (old mid new : StoreState) (P Q R : Content → Type 0) → LeavesOnly old mid P → LeavesOnly mid new Q →
    ((left : Content) → P left → R left) → ((left : Content) → Q left → R left) → LeavesOnly old new R
then_leaves old mid new P Q R first second from_first from_second = record {
  later = omega (arith, first.later, second.later);
  during = λ left was.
      ⊎_elim
      (λ early. from_first left (first.during left early))
      (λ late. from_second left late)
      (second.before old.clock left first.later was);
  before = λ t left le was.
      ⊎_elim
      (λ early. ⊎_elim (λ long. inl long) (λ is. inr (from_first left is)) (first.before t left le early))
      (λ late. inr (from_second left late))
      (second.before t left (omega (arith, le, first.later)) was);
}

-- a weaker word for what is left
pub weakened :
    (old new : StoreState) (P Q : Content → Type 0) → LeavesOnly old new P → ((left : Content) → P left → Q left) →
    LeavesOnly old new Q
weakened old new P Q leaves from = record {
  later = leaves.later;
  during = λ left was. from left (leaves.during left was);
  before = λ t left le was. ⊎_elim (λ early. inl early) (λ is. inr (from left is)) (leaves.before t left le was);
}

-- no call keeps a store, and so do two that keep it
pub keeps_none : (s : StoreState) → Keeps s s
keeps_none s = record {
  content = refl;
  crash = λ content calm. at_start s (λ left. left ≡ content) calm.alone;
  calm = λ content calm. calm;
}

pub keeps_both : (old mid new : StoreState) → Keeps old mid → Keeps mid new → Keeps old new
keeps_both old mid new first second = record {
  content = second.content ∙ first.content;
  crash = λ content calm.
      let is : Content → Type 0 = λ left. left ≡ content in
      then_leaves old mid new is is is (first.crash content calm) (second.crash content (first.calm content calm))
      (λ left e. e) (λ left e. e);
  calm = λ content calm. second.calm content (first.calm content calm);
}
