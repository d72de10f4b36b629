-- Faults and counts of calls that are made one after another.
use Rattle.std.proofs.Common.{◌≡◌, inl, inr, ⊎_elim, ℕ, ◌+◌, ◌≤◌, refl, ap, ◌∙◌, subst, arith, Result, Ok, Err}
use Rattle.fault_counts.specs.Counts.{TellsFailure}
use Rattle.oemm_blobs.specs.Store.{StoreState}
use Rattle.oemm_blobs.proofs.Crashes.{keeps_both, keeps_none}
use Rattle.oemm_blobs.specs.declared.blobs.StoreFail.{StoreFail}
use Rattle.oemm_blobs.specs.declared.blobs.StoreFail.TheVariants as store
use Rattle.oemm_shelf.specs.Readings.{store_fault}
use Rattle.oemm_shelf.specs.Shelves.{Reads}
use Rattle.oemm_shelf.specs.declared.fault.FoundFault.TheVariants as found
use Rattle.oemm_shelf.specs.declared.fault.ShelfFault.{ShelfFault}
use Rattle.oemm_shelf.specs.declared.fault.ShelfFault.TheVariants as fault

-- ---- the count of faults

module _ {E : Type 0} (f : E) where
  pub same_count : {T : Type 0} (a b : ℕ) (x : T) → TellsFailure f a b (Ok x) → b ≡ a
  same_count a b x tells = ⊎_elim (λ no. absurd (cc)) (λ same. same) tells.calm

  -- a call that answered Ok, and then an answer that is not the store's failure
  pub tells_other : {T U : Type 0} (a b : ℕ) (x : T) (r : Result U E) → (r ≡ Err f → ⊥) → TellsFailure f a b (Ok x)
      → TellsFailure f a b r
  tells_other a b x r differs tells = record {
    kept = tells.kept;
    cause = λ e. absurd (differs e);
    calm = inr (same_count a b x tells);
  }

  pub tells_ok : {T U : Type 0} (a b : ℕ) (x : T) (y : U) → TellsFailure f a b (Ok x) → TellsFailure f a b (Ok y)
  tells_ok a b x y tells = tells_other a b x (Ok y) (λ e. cc) tells

  -- and then another call
  pub tells_then : {T U : Type 0} (a b c : ℕ) (x : T) (r : Result U E) → TellsFailure f a b (Ok x)
      → TellsFailure f b c r → TellsFailure f a c r
  tells_then a b c x r first second = subst (λ n. TellsFailure f n c r) (same_count a b x first) second

  -- a fault that is handed on
  pub tells_err : {T U : Type 0} (a b : ℕ) (e : E) → TellsFailure {T = T} f a b (Err e)
      → TellsFailure {T = U} f a b (Err e)
  tells_err a b e tells = record {
    kept = tells.kept;
    cause = λ is. let same : e ≡ f = cc in tells.cause (ap (λ (x : E). Err x) same);
    calm = ⊎_elim (λ is. let same : e ≡ f = cc in inl (ap (λ (x : E). Err x) same)) (λ still. inr still) tells.calm;
  }

pub tells_store : {T U : Type 0} (a b : ℕ) (e : StoreFail) → TellsFailure {T = T} store.Failed a b (Err e)
    → TellsFailure {T = U} fault.Store a b (Err (store_fault e))
tells_store a b store.Failed tells = record { kept = tells.kept; cause = λ is. tells.cause refl; calm = inl refl }
tells_store a b store.Memory tells = record {
  kept = tells.kept;
  cause = λ is. absurd (cc);
  calm = ⊎_elim (λ no. absurd (cc)) (λ same. inr same) tells.calm;
}

pub tells_through : {T U : Type 0} (a b : ℕ) (x : T) (y : U) → TellsFailure store.Failed a b (Ok x)
    → TellsFailure fault.Store a b (Ok y)
tells_through a b x y tells = record {
  kept = tells.kept;
  cause = λ is. absurd (cc);
  calm = inr (same_count store.Failed a b x tells);
}

pub tells_found : {T U : Type 0} (a b : ℕ) (why : ShelfFault) → TellsFailure {T = T} fault.Store a b (Err why)
    → TellsFailure {T = U} (found.Shelf fault.Store) a b (Err (found.Shelf why))
tells_found a b why tells = record {
  kept = tells.kept;
  cause = λ is. let same : why ≡ fault.Store = cc in tells.cause (ap (λ (w : ShelfFault). Err w) same);
  calm = ⊎_elim (λ is. let same : why ≡ fault.Store = cc in inl (ap (λ (w : ShelfFault). Err (found.Shelf w)) same)) (λ still. inr still) tells.calm;
}

pub tells_found_ok : {T U : Type 0} (a b : ℕ) (x : T) (y : U) → TellsFailure fault.Store a b (Ok x)
    → TellsFailure (found.Shelf fault.Store) a b (Ok y)
tells_found_ok a b x y tells = record {
  kept = tells.kept;
  cause = λ is. absurd (cc);
  calm = inr (same_count fault.Store a b x tells);
}

-- ---- gets

pub reads_none : (s : StoreState) → Reads 0 s s
reads_none s = record { keeps = keeps_none s; kept_gets = omega arith; gets = omega arith; puts = refl }

pub reads_both : (n k : ℕ) (a b c : StoreState) → Reads n a b → Reads k b c → Reads (n + k) a c
reads_both n k a b c first second = record {
  keeps = keeps_both a b c first.keeps second.keeps;
  kept_gets = omega (arith, first.kept_gets, second.kept_gets);
  gets = omega (arith, first.gets, second.gets);
  puts = second.puts ∙ first.puts;
}

pub reads_more : (n k : ℕ) (a b : StoreState) → n ≤ k → Reads n a b → Reads k a b
reads_more n k a b le reads = record {
  keeps = reads.keeps;
  kept_gets = reads.kept_gets;
  gets = omega (arith, le, reads.gets);
  puts = reads.puts;
}
