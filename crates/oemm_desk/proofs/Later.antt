-- How a desk goes on.
use Rattle.std.proofs.Common.{◌≡◌, ℕ, ◌+◌, ◌<◌, ◌≤◌, List, [], ◌∷◌, ◌++◌, length, Option, Some, None, Result, Ok, Err, OnOk, OnErr, sym, ap, ◌∙◌, refl, subst, arith}
use Rattle.std.proofs.lemmas.List.{append_assoc, append-nil, length-append}
use Rattle.mesh_data.specs.declared.edits.Entry.{Entry}
use Rattle.oemm_blobs.specs.Content.{Content, blob_at}
use Rattle.oemm_blobs.specs.Store.{StoreState}
use Rattle.oemm_blobs.specs.declared.keys.Key.TheVariants as key
use Rattle.stored_mesh.specs.Commits.{IsSameBut}
use Rattle.stored_mesh.specs.Stored.{BytesAt}
use Rattle.oemm_desk.specs.Commits.{PutsCommit}
use Rattle.oemm_desk.specs.Desks.{DeskState}
use Rattle.oemm_desk.specs.Images.{AgreesBefore, Image, IsLater, image_of}
use Rattle.oemm_desk.proofs.Ways.{commit_told}
use Rattle.sheet_data.specs.declared.sheets.LeafSheet.{LeafSheet}

agrees_same : (n : ℕ) (at : BytesAt) → AgreesBefore n at at
agrees_same n at = record { index = refl; entries = λ k lt. refl; leaves = λ leaf version le. refl }

agrees_on : (n m : ℕ) (at mid now : BytesAt) → n ≤ m → AgreesBefore n at mid → AgreesBefore m mid now → AgreesBefore n at now
agrees_on n m at mid now le first second = record {
  index = second.index ∙ first.index;
  entries = λ k lt. second.entries k (omega (arith, lt, le)) ∙ first.entries k lt;
  leaves = λ leaf version up. second.leaves leaf version (omega (arith, up, le)) ∙ first.leaves leaf version up;
}

agrees_but : (n : ℕ) (at now : BytesAt) → IsSameBut n at now → AgreesBefore n at now
agrees_but n at now same = record {
  index = same key.Index (λ never. never);
  entries = λ k lt. same (key.Entry k) (λ is. omega (arith, lt, is));
  leaves = λ leaf version le. same (key.Leaf leaf version) (λ is. omega (arith, le, is));
}

-- what has the same index, journal and content, and has forgotten no fault
pub later_kept : (x y : Image) → y.index ≡ x.index → y.journal ≡ x.journal → y.content ≡ x.content → x.faults ≤ y.faults
    → IsLater x y
later_kept x y index journal content faults = record {
  index = index;
  more = [];
  journal = journal ∙ sym (append-nil x.journal);
  faults = faults;
  untold = λ none. content ∙ none;
  told = λ m is. (m, content ∙ is, agrees_same (length x.journal) (blob_at m));
}

pub later_same : (x : Image) → IsLater x x
later_same x = later_kept x x refl refl refl (omega arith)

pub later_then : (x y z : Image) → IsLater x y → IsLater y z → IsLater x z
later_then x y z first second = record {
  index = second.index ∙ first.index;
  more = first.more ++ second.more;
  journal = second.journal ∙ ap (λ (js : List Entry). js ++ second.more) first.journal ∙ append_assoc x.journal first.more second.more;
  faults = omega (arith, first.faults, second.faults);
  untold = λ none. second.untold (first.untold none);
  told = λ m is.
      let mid = first.told m is in
      let now = second.told mid.0 mid.1 in
      let longer : length y.journal ≡ length x.journal + length first.more = ap length first.journal ∙ length-append x.journal first.more in (
        now.0,
        now.1,
        agrees_on (length x.journal) (length y.journal) (blob_at m) (blob_at mid.0) (blob_at now.0) (omega (arith, longer)) mid.2 now.2,
      );
}

-- a commit, whatever it answers, leaves a later desk
pub later_commit : {T E B : Type 0} (sheets : List LeafSheet) (e : Entry) (old new : StoreState) (before now : DeskState B)
    (result : Result T E) → now.shelf.index ≡ before.shelf.index → OnOk result (now.journal ≡ before.journal ++ e ∷ [])
    → OnErr result (now.journal ≡ before.journal) → old.faults ≤ new.faults
    → PutsCommit (length before.journal) sheets e old new result → IsLater (image_of old before) (image_of new now)
later_commit {T = T} {E = E} sheets e old new before now result index grew kept faults puts =
    let went : (more : List Entry) × (now.journal ≡ before.journal ++ more) = further result grew kept in
    record {
      index = index;
      more = went.0;
      journal = went.1;
      faults = faults;
      untold = puts.untold;
      told = λ m is.
          let after = commit_told (length before.journal) sheets e old new result puts m is in
          (after.0, after.1, agrees_but (length before.journal) (blob_at m) (blob_at after.0) after.2);
    }
  where
    further : (r : Result T E) → OnOk r (now.journal ≡ before.journal ++ e ∷ []) → OnErr r (now.journal ≡ before.journal)
        → (more : List Entry) × (now.journal ≡ before.journal ++ more)
    further (Ok v) grew kept = (e ∷ [], grew)
    further (Err why) grew kept = ([], kept ∙ sym (append-nil before.journal))
