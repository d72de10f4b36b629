-- How a store goes on from put to put.
use Rattle.std.proofs.Common.{◌≡◌, ◌≢◌, ◌⊎◌, inl, inr, ⊎_elim, ℕ, ◌+◌, ◌<◌, ◌≤◌, List, length, Some, Result, Ok, Err, OnErr, refl, sym, ap, ◌∙◌, subst, arith}
use Rattle.std.proofs.lemmas.Bool.{cases_lt, false≢true}
use Rattle.std.specs.Option.{option_map}
use Rattle.leaf_codec.specs.Index.{IsIndexSpelling}
use Rattle.leaf_codec.specs.Sheets.{IsSheetSpelling}
use Rattle.leaf_codec.specs.declared.formats.TheConstants.{NEWEST}
use Rattle.leaf_codec.proofs.IndexSpells.{index_codec}
use Rattle.leaf_codec.proofs.SheetSpells.{sheet_codec}
use Rattle.store_spelling.proofs.Readings.{is_spelled}
use Rattle.oemm_limits.specs.declared.TheConstants.{MOST_LEAVES}
use Rattle.oemm_octree.specs.declared.cells.Cell.{Cell}
use Rattle.mesh_data.specs.Mesh.{Mesh}
use Rattle.sheet_data.specs.declared.index.IndexSheet.{IndexSheet}
use Rattle.sheet_data.specs.declared.sheets.LeafSheet.{LeafSheet}
use Rattle.oemm_blobs.specs.Content.{Content, blob_at, with_blob, with_change}
use Rattle.oemm_blobs.specs.Store.{Changes, IsCalmWith, Keeps, StoreState}
use Rattle.oemm_blobs.specs.declared.blobs.StoreFail.{StoreFail}
use Rattle.oemm_blobs.specs.declared.keys.Change.{Change}
use Rattle.oemm_blobs.specs.declared.keys.Key.{Key}
use Rattle.oemm_blobs.specs.declared.keys.Key.TheVariants as key
use Rattle.oemm_blobs.proofs.Crashes.{at_start, then_leaves, weakened}
use Rattle.mesh_sheets.specs.Sheets.{sheet}
use Rattle.stored_mesh.specs.Commits.{IsPut}
use Rattle.stored_mesh.specs.Stored.{BytesAt, spelled}
use Rattle.stored_mesh.proofs.Contents.{content_put}
use Rattle.store_spelling.specs.Spelled.{store_spelling}
use Rattle.oemm_shelf.specs.Shelves as shelves
use Rattle.oemm_build.specs.Laying.{AreLaid, IsBuiltOver, IsFirstSheet, IsOfBuild, IsSameButSheets, Lays, LaysAll, LeavesSo, MayLeave, Stops, TellsStill}

-- ---- answers of calls

pub on_err : {T E : Type 0} (result : Result T E) {P : Type 0} → P → OnErr result P
on_err (Ok x) p = tt
on_err (Err e) p = p

-- ---- keys

pub first_more : (n most : ℕ) (k : Key) → n ≤ most → IsFirstSheet n k → IsFirstSheet most k
first_more n most key.Index le is = absurd is
first_more n most (key.Leaf leaf version) le is = (omega (arith, le, is.0), is.1)
first_more n most (key.Entry number) le is = absurd is
first_more n most (key.Page number) le is = absurd is
first_more n most (key.Run leaf part) le is = absurd is

pub first_built : (n : ℕ) (k : Key) → IsFirstSheet n k → IsOfBuild n k
first_built n key.Index is = absurd is
first_built n (key.Leaf leaf version) is = is
first_built n (key.Entry number) is = absurd is
first_built n (key.Page number) is = absurd is
first_built n (key.Run leaf part) is = absurd is

abbrev leaf_in : Key → ℕ
leaf_in (key.Leaf leaf version) = leaf
leaf_in _ = 0

abbrev IsLeaf : Key → Type 0
IsLeaf (key.Leaf leaf version) = Unit {0}
IsLeaf _ = ⊥

no_index : (leaf : ℕ) → key.Leaf leaf 0 ≢ key.Index
no_index leaf e = subst IsLeaf e tt

-- ---- what stands under keys

pub same_more : (n most : ℕ) (at now : BytesAt) → n ≤ most → IsSameButSheets n at now → IsSameButSheets most at now
same_more n most at now le same k not = same k (λ is. not (first_more n most k le is))

pub laid_none : (cells : List Cell) (m : Mesh) (at : BytesAt) → AreLaid cells m 0 at at
laid_none cells m at = record { there = λ leaf lt. absurd (omega (arith, lt)); others = λ k not. refl }

-- a put of a sheet, whatever its bytes are
pub same_put : (n : ℕ) (at now new : BytesAt) (bytes : List ℕ) → IsSameButSheets n at now
    → IsPut now (key.Leaf n 0) bytes new → IsSameButSheets (n + 1) at new
same_put n at now new bytes same put k not =
    put.others k (λ e. not (subst (IsFirstSheet (n + 1)) (sym e) (omega arith, refl)))
    ∙ same k (λ is. not (first_more n (n + 1) k (omega arith) is))

pub laid_put : (cells : List Cell) (m : Mesh) (n : ℕ) (at now new : BytesAt) (bytes : List ℕ) → AreLaid cells m n at now
    → IsPut now (key.Leaf n 0) bytes new → store_spelling.sheet bytes ≡ Some (sheet cells m n)
    → AreLaid cells m (n + 1) at new
laid_put cells m n at now new bytes laid put is = record {
  there = λ leaf lt. elim (cases_lt leaf n) [
    | inl below ↦
        let other : key.Leaf leaf 0 ≢ key.Leaf n 0 = λ e. let same : leaf ≡ n = ap leaf_in e in absurd (omega (arith, same, below)) in
        ap (spelled store_spelling.sheet) (put.others (key.Leaf leaf 0) other) ∙ laid.there leaf below
    | inr above ↦
        let same : n ≡ leaf = omega (arith, lt, above) in
        subst (λ (l : ℕ). spelled store_spelling.sheet (new (key.Leaf l 0)) ≡ Some (sheet cells m l)) same
        (ap (spelled store_spelling.sheet) put.there ∙ is)
  ];
  others = same_put n at now new bytes laid.others put;
}

-- the put of the index behind all sheets
pub built_put : (i : IndexSheet) (m : Mesh) (at now new : BytesAt) (bytes : List ℕ)
    → AreLaid i.cells m (length i.cells) at now → IsPut now key.Index bytes new → store_spelling.index bytes ≡ Some i
    → IsBuiltOver i m at new
built_put i m at now new bytes laid put is = record {
  index = ap (spelled store_spelling.index) put.there ∙ is;
  there = λ leaf lt. ap (spelled store_spelling.sheet) (put.others (key.Leaf leaf 0) (no_index leaf)) ∙ laid.there leaf lt;
  others = λ k not.
      put.others k (λ e. not (subst (IsOfBuild (length i.cells)) (sym e) tt))
      ∙ laid.others k (λ is. not (first_built (length i.cells) k is));
}

-- ---- what is told

-- what was told is told still where the content was kept, and behind a change as it makes it
told_kept : (R S : BytesAt → BytesAt → Type 0) (old mid new : StoreState)
    → ((at now : BytesAt) → R at now → S at now) → TellsStill R old mid → new.content ≡ mid.content → TellsStill S old new
told_kept R S old mid new from told kept content was =
    let now = told content was in (now.0, kept ∙ now.1, from (blob_at content) (blob_at now.0) now.2)

told_changed : (R S : BytesAt → BytesAt → Type 0) (old mid new : StoreState) (c : Change)
    → ((content now : Content) → R (blob_at content) (blob_at now) → S (blob_at content) (blob_at (with_change c now)))
    → TellsStill R old mid → new.content ≡ option_map (with_change c) mid.content → TellsStill S old new
told_changed R S old mid new c from told made content was =
    let now = told content was in (
      with_change c now.0,
      made ∙ ap (option_map (with_change c)) now.1,
      from content now.0 now.2,
    )

-- ---- what crashes leave

abbrev CalmSo : (BytesAt → BytesAt → Type 0) → StoreState → StoreState → Type 0
CalmSo R old new = (content : Content) → IsCalmWith old content
    → (now : Content) × IsCalmWith new now × R (blob_at content) (blob_at now)

crash_kept : (R S : BytesAt → BytesAt → Type 0) (old new : StoreState)
    → ((at left : BytesAt) → R at left → S at left) → LeavesSo R old new → LeavesSo S old new
crash_kept R S old new from leaves content calm =
    weakened old new (λ left. R (blob_at content) (blob_at left)) (λ left. S (blob_at content) (blob_at left))
    (leaves content calm) (λ left is. from (blob_at content) (blob_at left) is)

-- a change more: a crash in it leaves what was there before it, or with it
crash_changed : (R L S : BytesAt → BytesAt → Type 0) (old mid new : StoreState) (c : Change)
    {T : Type 0} (result : Result T StoreFail) → Changes c mid new result
    → ((at left : BytesAt) → R at left → S at left)
    → ((content now : Content) → L (blob_at content) (blob_at now) → S (blob_at content) (blob_at now))
    → ((content now : Content) → L (blob_at content) (blob_at now) → S (blob_at content) (blob_at (with_change c now)))
    → LeavesSo R old mid → CalmSo L old mid → LeavesSo S old new
crash_changed R L S old mid new c result step before still made leaves calms content calm =
    let now = calms content calm in
    let P : Content → Type 0 = λ left. R (blob_at content) (blob_at left) in
    let Q : Content → Type 0 = λ left. (left ≡ now.0) ⊎ (left ≡ with_change c now.0) in
    let W : Content → Type 0 = λ left. S (blob_at content) (blob_at left) in
    then_leaves old mid new P Q W (leaves content calm) (step.crash now.0 now.1)
    (λ left is. before (blob_at content) (blob_at left) is)
    (λ left is. ⊎_elim
    (λ e. subst W (sym e) (still content now.0 now.2))
    (λ e. subst W (sym e) (made content now.0 now.2))
    is)

-- ---- sheets

pub lays_none : (cells : List Cell) (m : Mesh) (s : StoreState) → Lays cells m 0 s s
lays_none cells m s = record {
  told = λ content was. (content, was, laid_none cells m (blob_at content));
  crash = λ content calm. at_start s (λ left. IsSameButSheets 0 (blob_at content) (blob_at left))
      (λ left was k not. ap (λ (c : Content). blob_at c k) (calm.alone left was));
  calm = λ content calm. (content, calm, laid_none cells m (blob_at content));
}

pub lays_stop : (cells : List Cell) (m : Mesh) (n : ℕ) (old new : StoreState) → n ≤ MOST_LEAVES
    → Lays cells m n old new → Stops old new
lays_stop cells m n old new le lays = record {
  told = told_kept (AreLaid cells m n) (IsSameButSheets MOST_LEAVES) old new new
      (λ at now laid. same_more n MOST_LEAVES at now le laid.others) lays.told refl;
  crash = crash_kept (IsSameButSheets n) (IsSameButSheets MOST_LEAVES) old new
      (λ at left is. same_more n MOST_LEAVES at left le is) lays.crash;
}

abbrev PutsSheet : LeafSheet → StoreState → StoreState → {T : Type 0} → Result T StoreFail → Type 0
PutsSheet s mid new result = shelves.Puts (key.Leaf s.leaf 0) (λ bytes. IsSheetSpelling NEWEST bytes s) mid new result

module _ (cells : List Cell) (m : Mesh) (n : ℕ) (s : LeafSheet) (old mid new : StoreState)
    (lays : Lays cells m n old mid) (is : s ≡ sheet cells m n) where
  at_leaf : s.leaf ≡ n
  unfolding sheet
  at_leaf = ap (λ (x : LeafSheet). x.leaf) is

  put_there : (bytes : List ℕ) (content : Content)
      → IsPut (blob_at content) (key.Leaf n 0) bytes (blob_at (with_blob (key.Leaf s.leaf 0) (Some bytes) content))
  put_there bytes content =
      subst (λ (l : ℕ). IsPut (blob_at content) (key.Leaf l 0) bytes (blob_at (with_blob (key.Leaf s.leaf 0) (Some bytes) content))) at_leaf
      (content_put content (key.Leaf s.leaf 0) bytes)

  crash_more : {T : Type 0} (result : Result T StoreFail) → PutsSheet s mid new result → LeavesSo (IsSameButSheets (n + 1)) old new
  crash_more result puts =
      crash_changed (IsSameButSheets n) (AreLaid cells m n) (IsSameButSheets (n + 1)) old mid new
      (record { key = key.Leaf s.leaf 0; bytes = Some puts.bytes }) result puts.changes
      (λ at left same. same_more n (n + 1) at left (omega arith) same)
      (λ content now laid. same_more n (n + 1) (blob_at content) (blob_at now) (omega arith) laid.others)
      (λ content now laid. same_put n (blob_at content) (blob_at now)
      (blob_at (with_blob (key.Leaf s.leaf 0) (Some puts.bytes) now)) puts.bytes laid.others (put_there puts.bytes now))
      lays.crash lays.calm

  -- the next sheet was put
  pub lays_more : {T : Type 0} (v : T) → PutsSheet s mid new (Ok v) → Lays cells m (n + 1) old new
  lays_more v puts =
      let c : Change = record { key = key.Leaf s.leaf 0; bytes = Some puts.bytes } in
      let spells : store_spelling.sheet puts.bytes ≡ Some (sheet cells m n) =
      ⊎_elim (λ by. is_spelled sheet_codec NEWEST puts.bytes s by ∙ ap Some is) (λ no. absurd (false≢true no.0)) puts.spelled in
      let laid : (content now : Content) → AreLaid cells m n (blob_at content) (blob_at now)
      → AreLaid cells m (n + 1) (blob_at content) (blob_at (with_change c now)) = λ content now before.
      laid_put cells m n (blob_at content) (blob_at now) (blob_at (with_change c now)) puts.bytes before
      (put_there puts.bytes now) spells in
      record {
        told = told_changed (AreLaid cells m n) (AreLaid cells m (n + 1)) old mid new c laid lays.told puts.changes.ok;
        crash = crash_more (Ok v) puts;
        calm = λ content calm.
            let now = lays.calm content calm in
            (with_change c now.0, puts.changes.calm now.0 now.1, laid content now.0 now.2);
      }

  -- the next sheet was refused
  pub lays_refused : {T : Type 0} (e : StoreFail) → n < MOST_LEAVES → PutsSheet s mid new {T = T} (Err e) → Stops old new
  lays_refused {T} e lt puts = record {
    told = told_kept (AreLaid cells m n) (IsSameButSheets MOST_LEAVES) old mid new
        (λ at now laid. same_more n MOST_LEAVES at now (omega (arith, lt)) laid.others) lays.told puts.changes.err;
    crash = crash_kept (IsSameButSheets (n + 1)) (IsSameButSheets MOST_LEAVES) old new
        (λ at left same. same_more (n + 1) MOST_LEAVES at left (omega (arith, lt)) same) (crash_more (Err e) puts);
  }

-- ---- the index

pub stops_all : {T E : Type 0} (i : IndexSheet) (m : Mesh) (old new : StoreState) (e : E) → Stops old new
    → LaysAll {T = T} i m old new (Err e)
stops_all i m old new e stops = record {
  ok = tt;
  err = stops.told;
  crash = crash_kept (IsSameButSheets MOST_LEAVES) (MayLeave i m) old new (λ at left same. inl same) stops.crash;
  calm = tt;
}

abbrev PutsIndex : IndexSheet → StoreState → StoreState → {T : Type 0} → Result T StoreFail → Type 0
PutsIndex i mid new result = shelves.Puts key.Index (λ bytes. IsIndexSpelling NEWEST bytes i) mid new result

module _ (i : IndexSheet) (m : Mesh) (old mid new : StoreState) (few : length i.cells ≤ MOST_LEAVES)
    (lays : Lays i.cells m (length i.cells) old mid) where
  no_more : (at now : BytesAt) → IsSameButSheets (length i.cells) at now → IsSameButSheets MOST_LEAVES at now
  no_more at now same = same_more (length i.cells) MOST_LEAVES at now few same

  module _ (bytes : List ℕ) (spelling : IsIndexSpelling NEWEST bytes i) where
    made : (content now : Content) → AreLaid i.cells m (length i.cells) (blob_at content) (blob_at now)
        → IsBuiltOver i m (blob_at content) (blob_at (with_blob key.Index (Some bytes) now))
    made content now laid =
        built_put i m (blob_at content) (blob_at now) (blob_at (with_blob key.Index (Some bytes) now)) bytes laid
        (content_put now key.Index bytes) (is_spelled index_codec NEWEST bytes i spelling)

    crash_spelled : {T : Type 0} (result : Result T StoreFail)
        → Changes (record { key = key.Index; bytes = Some bytes }) mid new result → LeavesSo (MayLeave i m) old new
    crash_spelled result changes =
        crash_changed (IsSameButSheets (length i.cells)) (AreLaid i.cells m (length i.cells)) (MayLeave i m) old mid new
        (record { key = key.Index; bytes = Some bytes }) result changes
        (λ at left same. inl (no_more at left same))
        (λ content now laid. inl (no_more (blob_at content) (blob_at now) laid.others))
        (λ content now laid. inr (made content now laid))
        lays.crash lays.calm

  crash_same : Keeps mid new → LeavesSo (MayLeave i m) old new
  crash_same keeps content calm =
      let now = lays.calm content calm in
      let P : Content → Type 0 = λ left. IsSameButSheets (length i.cells) (blob_at content) (blob_at left) in
      let Q : Content → Type 0 = λ left. left ≡ now.0 in
      let W : Content → Type 0 = λ left. MayLeave i m (blob_at content) (blob_at left) in
      then_leaves old mid new P Q W (lays.crash content calm) (keeps.crash now.0 now.1)
      (λ left same. inl (no_more (blob_at content) (blob_at left) same))
      (λ left e. subst W (sym e) (inl (no_more (blob_at content) (blob_at now.0) now.2.others)))

  -- the index was put behind all sheets, or refused
  pub lays_all : {T : Type 0} (result : Result T StoreFail) → PutsIndex i mid new result → LaysAll i m old new result
  lays_all (Ok v) puts =
      let spelling : IsIndexSpelling NEWEST puts.bytes i = ⊎_elim (λ by. by) (λ no. absurd (false≢true no.0)) puts.spelled in
      let c : Change = record { key = key.Index; bytes = Some puts.bytes } in
      record {
        ok = told_changed (AreLaid i.cells m (length i.cells)) (IsBuiltOver i m) old mid new c (made puts.bytes spelling)
            lays.told puts.changes.ok;
        err = tt;
        crash = crash_spelled puts.bytes spelling (Ok v) puts.changes;
        calm = λ content calm.
            let now = lays.calm content calm in
            (with_change c now.0, puts.changes.calm now.0 now.1);
      }
  lays_all (Err e) puts = record {
    ok = tt;
    err = told_kept (AreLaid i.cells m (length i.cells)) (IsSameButSheets MOST_LEAVES) old mid new
        (λ at now laid. no_more at now laid.others) lays.told puts.changes.err;
    crash = ⊎_elim (λ by. crash_spelled puts.bytes by (Err e) puts.changes) (λ no. crash_same no.1) puts.spelled;
    calm = tt;
  }

-- the sheets of these cells, which are those of an index
pub same_cells : (cells others : List Cell) → cells ≡ others → length cells ≤ MOST_LEAVES → length others ≤ MOST_LEAVES
same_cells cells others same few = subst (λ (cs : List Cell). length cs ≤ MOST_LEAVES) same few

pub same_index : (cells others : List Cell) (m : Mesh) (old new : StoreState) → cells ≡ others
    → Lays cells m (length cells) old new → Lays others m (length others) old new
same_index cells others m old new same lays =
    subst (λ (cs : List Cell). Lays cs m (length cs) old new) same lays

pub same_puts : {T : Type 0} (i j : IndexSheet) (mid new : StoreState) (result : Result T StoreFail) → i ≡ j
    → PutsIndex i mid new result → PutsIndex j mid new result
same_puts i j mid new result same puts = subst (λ (x : IndexSheet). PutsIndex x mid new result) same puts

-- ---- answers

-- nothing was put
pub kept_all : {T E : Type 0} (i : IndexSheet) (m : Mesh) (old new : StoreState) (e : E) → Keeps old new
    → LaysAll {T = T} i m old new (Err e)
kept_all i m old new e keeps = record {
  ok = tt;
  err = λ content was. (content, keeps.content ∙ was, λ k not. refl);
  crash = λ content calm.
      weakened old new (λ left. left ≡ content) (λ left. MayLeave i m (blob_at content) (blob_at left)) (keeps.crash content calm)
      (λ left e. inl (λ k not. ap (λ (c : Content). blob_at c k) e));
  calm = tt;
}

pub all_err : {T U E F : Type 0} (i : IndexSheet) (m : Mesh) (old new : StoreState) (e : E) (f : F)
    → LaysAll {T = T} i m old new (Err e) → LaysAll {T = U} i m old new (Err f)
all_err i m old new e f all = record { ok = tt; err = all.err; crash = all.crash; calm = tt }

pub all_ok : {T U E F : Type 0} (i : IndexSheet) (m : Mesh) (old new : StoreState) (v : T) (w : U)
    → LaysAll {E = E} i m old new (Ok v) → LaysAll {E = F} i m old new (Ok w)
all_ok i m old new v w all = record { ok = all.ok; err = tt; crash = all.crash; calm = all.calm }

-- the same of another index and of other stores, where they are the same
pub all_moved : {B T E : Type 0} (store : B → StoreState) (i j : IndexSheet) (m : Mesh) (a b c d : B) (result : Result T E)
    → i ≡ j → a ≡ b → c ≡ d → LaysAll i m (store a) (store c) result → LaysAll j m (store b) (store d) result
all_moved store i j m a b c d result same_index same_old same_new all =
    subst (λ (x : IndexSheet). LaysAll x m (store b) (store d) result) same_index
    (subst (λ x. LaysAll i m (store x) (store d) result) same_old
    (subst (λ x. LaysAll i m (store a) (store x) result) same_new all))
