-- The puts of a commit, one after another.
use Rattle.std.proofs.Common.{◌≡◌, ◌⊎◌, ℕ, suc, ◌+◌, ◌<◌, ◌≤◌, Bool, true, false, ◌||◌, eqb, List, [], ◌∷◌, ◌++◌, map, length, get_or, take, drop, take-suc, add-one, Option, Some, None, Result, Ok, Err, IsErr, OnOk, OnErr, sym, ap, ◌∙◌, refl, subst, arith, inl, inr, ⊎_elim}
use Rattle.std.proofs.lemmas.Bool.{false≢true, or_from, or_parts}
use Rattle.std.proofs.lemmas.List.{append_assoc, take-append-drop}
use Rattle.std.specs.Option.{option_map}
use Rattle.std.specs.List.Sorted.{IsStrictlyIncreasing}
use Rattle.oemm_octree.specs.Leaves.{is_one_of}
use Rattle.mesh_data.specs.declared.edits.Entry.{Entry}
use Rattle.triangle_lists.proofs.Paths.{eqb_comm}
use Rattle.sheet_data.specs.declared.index.NumberedEntry.{NumberedEntry}
use Rattle.sheet_data.specs.declared.sheets.LeafSheet.{LeafSheet}
use Rattle.oemm_blobs.specs.Content.{Content, blob_at, with_change}
use Rattle.oemm_blobs.specs.Store.{Changes, IsCalmWith, Keeps, LeavesOnly, StoreState}
use Rattle.oemm_blobs.specs.declared.blobs.StoreFail.{StoreFail}
use Rattle.oemm_blobs.specs.declared.keys.Change.{Change}
use Rattle.oemm_blobs.specs.declared.keys.Key.{Key}
use Rattle.oemm_blobs.specs.declared.keys.Key.TheVariants as key
use Rattle.oemm_blobs.proofs.Crashes.{at_start, then_leaves, weakened}
use Rattle.mesh_sheets.proofs.Filters.{AreDistinct}
use Rattle.mesh_sheets.proofs.Rims.{distinct_increasing}
use Rattle.stored_mesh.specs.Commits.{IsOfCommit, IsPut, IsSameBut, IsUnderWay}
use Rattle.stored_mesh.specs.Stored.{BytesAt}
use Rattle.stored_mesh.proofs.Contents.{content_put}
use Rattle.stored_mesh.proofs.Puts.{none_put, sheet_put}
use Rattle.store_spelling.specs.Spelled.{store_spelling}
use Rattle.oemm_shelf.specs.Shelves.{Puts}
use Rattle.oemm_desk.specs.Commits.{CountsPuts, IsWithEntry, IsWithoutEntry, PutsCommit, PutsSheets, TellsAfter}

-- ---- contents

abbrev is_leaf : Key → Bool
is_leaf (key.Leaf leaf version) = true
is_leaf _ = false

pub without_none : (n : ℕ) (at : BytesAt) → IsWithoutEntry n at at
without_none n at = record { same = λ k other. refl; entry = refl }

-- a put of a sheet of commit n
without_more : (n leaf : ℕ) (bytes : List ℕ) (at now new : BytesAt) → IsWithoutEntry n at now
    → IsPut now (key.Leaf leaf (n + 1)) bytes new → IsWithoutEntry n at new
without_more n leaf bytes at now new was put = record {
  same = λ k out. put.others k (λ e. out (subst (IsOfCommit n) (sym e) refl)) ∙ was.same k out;
  entry = put.others (key.Entry n) (λ e. false≢true (ap is_leaf e)) ∙ was.entry;
}

under_way_without : (n : ℕ) (sheets : List LeafSheet) (at now : BytesAt) → IsUnderWay store_spelling at now n sheets
    → IsWithoutEntry n at now
under_way_without n sheets at now way = record { same = way.same; entry = way.entry }

-- what is there with the entry is the same but at keys of the commit
pub with_same : (n : ℕ) (sheets : List LeafSheet) (e : Entry) (at now : BytesAt) → IsWithEntry n sheets e at now
    → IsSameBut n at now
with_same n sheets e at now done =
    λ k out. done.put.others k (λ is. out (subst (IsOfCommit n) (sym is) refl)) ∙ done.way.same k out

-- ---- stores

-- the put of an entry
abbrev entry_change : ℕ → List ℕ → Change
entry_change n bytes = record { key = key.Entry n; bytes = Some bytes }

-- a store that tells nothing tells nothing after a change
changes_untold : {T : Type 0} (c : Change) (old new : StoreState) (result : Result T StoreFail) → Changes c old new result
    → old.content ≡ None → new.content ≡ None
changes_untold c old new (Ok v) changes none = changes.ok ∙ ap (option_map (with_change c)) none
changes_untold c old new (Err fail) changes none = changes.err ∙ none

some_same : {X : Type 0} (o : Option X) (x y : X) → o ≡ Some x → o ≡ Some y → x ≡ y
some_same o x y is also = let e : Some x ≡ Some y = sym is ∙ also in cc

pub none_yet : (n : ℕ) (s : StoreState) → PutsSheets n [] s s
none_yet n s = record {
  told = λ m is. (m, is, none_put store_spelling (blob_at m) n);
  untold = λ none. none;
  crash = λ m calm. at_start s (λ left. IsWithoutEntry n (blob_at m) (blob_at left))
      (λ left was. subst (λ (c : Content). IsWithoutEntry n (blob_at m) (blob_at c)) (sym (calm.alone left was)) (without_none n (blob_at m)));
  calm = λ m calm. (m, calm);
}

-- a calm store, some sheets later
module _ (n : ℕ) (done : List LeafSheet) (old mid : StoreState) (puts : PutsSheets n done old mid) where
  mid_calm : (m : Content) → IsCalmWith old m
      → (now : Content) × IsCalmWith mid now × IsUnderWay store_spelling (blob_at m) (blob_at now) n done
  mid_calm m calm =
      let is = puts.calm m calm in
      let told = puts.told m calm.told in (
        is.0,
        is.1,
        subst (λ (c : Content). IsUnderWay store_spelling (blob_at m) (blob_at c) n done)
            (some_same mid.content told.0 is.0 told.1 is.1.told) told.2,
      )

  -- one sheet's put more, whatever it answers
  module _ (s : LeafSheet) {T : Type 0} (new : StoreState) (result : Result T StoreFail)
      (put : Puts (key.Leaf s.leaf (n + 1)) (λ bytes. store_spelling.sheet bytes ≡ Some s) mid new result) where
    abbrev change : Change
    change = record { key = key.Leaf s.leaf (n + 1); bytes = Some put.bytes }

    change_put : (c : Content) → IsPut (blob_at c) (key.Leaf s.leaf (n + 1)) put.bytes (blob_at (with_change change c))
    change_put c = content_put c (key.Leaf s.leaf (n + 1)) put.bytes

    sheet_crash : (m : Content) → IsCalmWith old m → LeavesOnly old new (λ left. IsWithoutEntry n (blob_at m) (blob_at left))
    sheet_crash m calm =
        let at = mid_calm m calm in
        let was = under_way_without n done (blob_at m) (blob_at at.0) at.2 in
        let goal : Content → Type 0 = λ left. IsWithoutEntry n (blob_at m) (blob_at left) in
        then_leaves old mid new goal (λ left. (left ≡ at.0) ⊎ (left ≡ with_change change at.0)) goal
        (puts.crash m calm) (put.changes.crash at.0 at.1) (λ left is. is)
        (λ left is. ⊎_elim (λ e. subst goal (sym e) was)
        (λ e. subst goal (sym e) (without_more n s.leaf put.bytes (blob_at m) (blob_at at.0) (blob_at (with_change change at.0)) was (change_put at.0))) is)

  pub one_more : (s : LeafSheet) {T : Type 0} (new : StoreState) (v : T) → is_one_of (map (λ (x : LeafSheet). x.leaf) done) s.leaf ≡ false
      → Puts {T = T} (key.Leaf s.leaf (n + 1)) (λ bytes. store_spelling.sheet bytes ≡ Some s) mid new (Ok v)
      → PutsSheets n (done ++ s ∷ []) old new
  one_more s {T = T} new v other put =
      let spelled : store_spelling.sheet put.bytes ≡ Some s =
      ⊎_elim (λ is. is) (λ never. absurd (false≢true never.0)) put.spelled in
      let c : Change = record { key = key.Leaf s.leaf (n + 1); bytes = Some put.bytes } in
      record {
        told = λ m is.
            let was = puts.told m is in (
              with_change c was.0,
              put.changes.ok ∙ ap (option_map (with_change c)) was.1,
              sheet_put store_spelling (blob_at m) n (blob_at was.0) (blob_at (with_change c was.0)) done s put.bytes was.2
                  (content_put was.0 (key.Leaf s.leaf (n + 1)) put.bytes) spelled other,
            );
        untold = λ none. changes_untold c mid new (Ok v) put.changes (puts.untold none);
        crash = sheet_crash s new (Ok v) put;
        calm = λ m calm. let at = mid_calm m calm in (with_change c at.0, put.changes.calm at.0 at.1);
      }

  -- a sheet that is refused ends the commit
  pub one_refused : (s : LeafSheet) {T U : Type 0} (new : StoreState) (fail : StoreFail) (sheets : List LeafSheet) (e : Entry)
      → Puts {T = T} (key.Leaf s.leaf (n + 1)) (λ bytes. store_spelling.sheet bytes ≡ Some s) mid new (Err fail)
      → PutsCommit {T = U} n sheets e old new (Err fail)
  one_refused s new fail sheets e put = record {
    done = tt;
    refused = λ m is.
        let was = puts.told m is in
        (was.0, put.changes.err ∙ was.1, under_way_without n done (blob_at m) (blob_at was.0) was.2);
    untold = λ none. changes_untold (record { key = key.Leaf s.leaf (n + 1); bytes = Some put.bytes }) mid new (Err fail) put.changes (puts.untold none);
    crash = λ m calm. weakened old new (λ left. IsWithoutEntry n (blob_at m) (blob_at left))
        (λ left. IsWithoutEntry n (blob_at m) (blob_at left) ⊎ IsWithEntry n sheets e (blob_at m) (blob_at left))
        (sheet_crash s new (Err fail) put m calm) (λ left is. inl is);
    calm = tt;
  }

  -- the entry's put, whatever it answers
  pub with_entry : (e : Entry) {T : Type 0} (new : StoreState) (result : Result T StoreFail)
      → Puts (key.Entry n) (λ bytes. store_spelling.entry bytes ≡ Some (record { number = n; entry = e })) mid new result
      → PutsCommit n done e old new result
  with_entry e {T = T} new result put = record {
    done = elim result as (λ r. Changes (entry_change n put.bytes) mid new r → ((store_spelling.entry put.bytes ≡ Some (record { number = n; entry = e })) ⊎ (IsErr r × Keeps mid new)) → OnOk r (TellsAfter old new (IsWithEntry n done e))) [
      | Ok v ↦ λ changes spelled m is.
          let was = puts.told m is in (
            with_change (entry_change n put.bytes) was.0,
            changes.ok ∙ ap (option_map (with_change (entry_change n put.bytes))) was.1,
            entry_there (blob_at m) was.0 was.2 (⊎_elim (λ x. x) (λ never. absurd (false≢true never.0)) spelled),
          )
      | Err fail ↦ λ changes spelled. tt
    ] put.changes put.spelled;
    refused = elim result as (λ r. Changes (entry_change n put.bytes) mid new r → OnErr r (TellsAfter old new (IsWithoutEntry n))) [
      | Ok v ↦ λ changes. tt
      | Err fail ↦ λ changes m is.
          let was = puts.told m is in
          (was.0, changes.err ∙ was.1, under_way_without n done (blob_at m) (blob_at was.0) was.2)
    ] put.changes;
    untold = λ none. changes_untold (entry_change n put.bytes) mid new result put.changes (puts.untold none);
    crash = λ m calm.
        let at = mid_calm m calm in
        let was = under_way_without n done (blob_at m) (blob_at at.0) at.2 in
        let before : Content → Type 0 = λ left. IsWithoutEntry n (blob_at m) (blob_at left) in
        let goal : Content → Type 0 = λ left. IsWithoutEntry n (blob_at m) (blob_at left) ⊎ IsWithEntry n done e (blob_at m) (blob_at left) in
        ⊎_elim
        (λ spelled. then_leaves old mid new before (λ left. (left ≡ at.0) ⊎ (left ≡ with_change (entry_change n put.bytes) at.0)) goal
        (puts.crash m calm) (put.changes.crash at.0 at.1) (λ left is. inl is)
        (λ left is. ⊎_elim (λ same. subst goal (sym same) (inl was))
        (λ full. subst goal (sym full) (inr (entry_there (blob_at m) at.0 at.2 spelled))) is))
        (λ kept. then_leaves old mid new before (λ left. left ≡ at.0) goal
        (puts.crash m calm) (kept.1.crash at.0 at.1) (λ left is. inl is) (λ left same. subst goal (sym same) (inl was)))
        put.spelled;
    calm = elim result as (λ r. Changes (entry_change n put.bytes) mid new r → OnOk r ((m : Content) → IsCalmWith old m → (now : Content) × IsCalmWith new now)) [
      | Ok v ↦ λ changes m calm. let at = mid_calm m calm in (with_change (entry_change n put.bytes) at.0, changes.calm at.0 at.1)
      | Err fail ↦ λ changes. tt
    ] put.changes;
  }
    where
      entry_there : (at : BytesAt) (now : Content) → IsUnderWay store_spelling at (blob_at now) n done → (store_spelling.entry put.bytes ≡ Some (record { number = n; entry = e }))
          → IsWithEntry n done e at (blob_at (with_change (entry_change n put.bytes) now))
      entry_there at now way spelled = record {
        before = blob_at now;
        way = way;
        bytes = put.bytes;
        put = content_put now (key.Entry n) put.bytes;
        spelled = spelled;
      }

-- a commit for which no put was made
pub puts_nothing : {T E : Type 0} (n : ℕ) (sheets : List LeafSheet) (e : Entry) (s : StoreState) (why : E)
    → PutsCommit {T = T} n sheets e s s (Err why)
puts_nothing n sheets e s why = record {
  done = tt;
  refused = λ m is. (m, is, without_none n (blob_at m));
  untold = λ none. none;
  crash = λ m calm. at_start s (λ left. IsWithoutEntry n (blob_at m) (blob_at left) ⊎ IsWithEntry n sheets e (blob_at m) (blob_at left))
      (λ left was. inl (subst (λ (c : Content). IsWithoutEntry n (blob_at m) (blob_at c)) (sym (calm.alone left was)) (without_none n (blob_at m))));
  calm = tt;
}

-- a put of bytes that spell, in a weaker sense
pub puts_weaker : {T : Type 0} (k : Key) (S R : List ℕ → Type 0) (old new : StoreState) (result : Result T StoreFail)
    → ((bytes : List ℕ) → S bytes → R bytes) → Puts k S old new result → Puts k R old new result
puts_weaker k S R old new result from put = record {
  bytes = put.bytes;
  changes = put.changes;
  spelled = ⊎_elim (λ is. inl (from put.bytes is)) (λ kept. inr kept) put.spelled;
  gets = put.gets;
  kept_puts = put.kept_puts;
  puts = put.puts;
  one = put.one;
}

-- the same puts, with another answer of the same kind
pub puts_ok : {T E U F : Type 0} (n : ℕ) (sheets : List LeafSheet) (e : Entry) (old new : StoreState) (v : T) (w : U)
    → PutsCommit {E = E} n sheets e old new (Ok v) → PutsCommit {E = F} n sheets e old new (Ok w)
puts_ok n sheets e old new v w puts = record {
  done = puts.done;
  refused = tt;
  untold = puts.untold;
  crash = puts.crash;
  calm = puts.calm;
}

pub puts_err : {T E U F : Type 0} (n : ℕ) (sheets : List LeafSheet) (e : Entry) (old new : StoreState) (v : E) (w : F)
    → PutsCommit {T = T} n sheets e old new (Err v) → PutsCommit {T = U} n sheets e old new (Err w)
puts_err n sheets e old new v w puts = record {
  done = tt;
  refused = puts.refused;
  untold = puts.untold;
  crash = puts.crash;
  calm = tt;
}

-- what is told after a commit that was asked for
pub commit_told : {T E : Type 0} (n : ℕ) (sheets : List LeafSheet) (e : Entry) (old new : StoreState) (result : Result T E)
    → PutsCommit n sheets e old new result → TellsAfter old new (IsSameBut n)
commit_told n sheets e old new (Ok v) puts = λ m is.
    let now = puts.done m is in (now.0, now.1, with_same n sheets e (blob_at m) (blob_at now.0) now.2)
commit_told n sheets e old new (Err why) puts = λ m is. let now = puts.refused m is in (now.0, now.1, now.2.same)

-- ---- counts

pub counts_none : (s : StoreState) → CountsPuts 0 s s
counts_none s = record { gets = refl; kept = omega arith; most_puts = omega arith }

pub counts_put : {T : Type 0} {k : Key} {S : List ℕ → Type 0} (n : ℕ) (old mid new : StoreState) (result : Result T StoreFail)
    → CountsPuts n old mid → Puts k S mid new result → CountsPuts (n + 1) old new
counts_put n old mid new result before put = record {
  gets = put.gets ∙ before.gets;
  kept = omega (arith, before.kept, put.kept_puts);
  most_puts = omega (arith, before.most_puts, put.puts);
}

pub counts_more : (n k : ℕ) (old new : StoreState) → n ≤ k → CountsPuts n old new → CountsPuts k old new
counts_more n k old new le counts = record {
  gets = counts.gets;
  kept = counts.kept;
  most_puts = omega (arith, le, counts.most_puts);
}

-- ---- different leaves

once_before : (xs ys : List ℕ) (y : ℕ) → AreDistinct (xs ++ y ∷ ys) → is_one_of xs y ≡ false
once_before [] ys y once = refl
once_before (x ∷ xs) ys y once =
    or_from (eqb y x) (is_one_of xs y) (eqb_comm y x ∙ here xs once.0) (once_before xs ys y once.1)
  where
    here : (zs : List ℕ) → is_one_of (zs ++ y ∷ ys) x ≡ false → eqb x y ≡ false
    here [] out = (or_parts (eqb x y) (is_one_of ys x) out).0
    here (z ∷ zs) out = here zs (or_parts (eqb x z) (is_one_of (zs ++ y ∷ ys) x) out).1

-- a leaf isn't one of those before it, where leaves ascend
pub not_before : (done rest : List LeafSheet) (s : LeafSheet)
    → IsStrictlyIncreasing (map (λ (x : LeafSheet). x.leaf) (done ++ s ∷ rest))
    → is_one_of (map (λ (x : LeafSheet). x.leaf) done) s.leaf ≡ false
not_before done rest s up =
    once_before (map (λ (x : LeafSheet). x.leaf) done) (map (λ (x : LeafSheet). x.leaf) rest) s.leaf
    (subst AreDistinct (split done) (distinct_increasing (map (λ (x : LeafSheet). x.leaf) (done ++ s ∷ rest)) up))
  where
    split : (xs : List LeafSheet) → map (λ (x : LeafSheet). x.leaf) (xs ++ s ∷ rest)
        ≡ map (λ (x : LeafSheet). x.leaf) xs ++ s.leaf ∷ map (λ (x : LeafSheet). x.leaf) rest
    split [] = refl
    split (x ∷ xs) = ap (λ (ns : List ℕ). x.leaf ∷ ns) (split xs)

-- the first sheets, one more
module _ (sheets : List LeafSheet) (i : ℕ) (s : LeafSheet) (lt : i < length sheets) (is : get_or sheets i s ≡ s) where
  pub taken_more : take (i + 1) sheets ≡ take i sheets ++ s ∷ []
  taken_more =
      ap (λ (n : ℕ). take n sheets) (add-one i) ∙ take-suc sheets i s lt
      ∙ ap (λ (x : LeafSheet). take i sheets ++ x ∷ []) is

  pub taken_before : IsStrictlyIncreasing (map (λ (x : LeafSheet). x.leaf) sheets)
      → is_one_of (map (λ (x : LeafSheet). x.leaf) (take i sheets)) s.leaf ≡ false
  taken_before up =
      let parts : sheets ≡ take i sheets ++ s ∷ drop (i + 1) sheets =
      sym (take-append-drop (i + 1) sheets) ∙ ap (λ (xs : List LeafSheet). xs ++ drop (i + 1) sheets) taken_more
      ∙ append_assoc (take i sheets) (s ∷ []) (drop (i + 1) sheets) in
      not_before (take i sheets) (drop (i + 1) sheets) s
      (subst (λ (xs : List LeafSheet). IsStrictlyIncreasing (map (λ (x : LeafSheet). x.leaf) xs)) parts up)
