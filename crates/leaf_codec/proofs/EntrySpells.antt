-- Entries are read as they are spelled.
use Rattle.std.proofs.Common.{None, ◌≡◌, ℕ, zero, suc, ◌<◌, ◌≤◌, ◌^◌, List, [], ◌∷◌, ◌++◌, length, Bool, true, false, Ok, refl, sym, ap, subst, ◌∙◌, arith, eqb}
use Rattle.std.proofs.lemmas.Bool.{eqb-true, and_parts}
use Rattle.std.specs.List.{AllByRecursion}
use Rattle.mesh_data.specs.declared.edits.Edit.{Edit}
use Rattle.mesh_data.specs.declared.edits.Reply.{Reply}
use Rattle.sheet_data.specs.declared.index.NumberedEntry.{NumberedEntry}
use Rattle.byte_grammar.specs.Reader.{is_in}
use Rattle.byte_grammar.specs.Keeps.{Keeps, Always}
use Rattle.byte_grammar.proofs.Spells.{Spells, Spells-then, Spells-last, Spells-unit, Spells-many, Keeps-parts, Keeps-both, is_in-low, is_in-high, is_in-from}
use Rattle.byte_grammar.proofs.NumberSpells.{Spells-u8, Spells-u16, Spells-u32}
use Rattle.byte_grammar.specs.Codec.{IsCodec}
use Rattle.byte_grammar.proofs.Codecs.{codec_of}
use Rattle.byte_grammar.proofs.Variants.{Makes, Makes-then, Makes-last}
use Rattle.byte_grammar.proofs.Places.{Places, Places-then, Places-unit, Places-number, Places-many, Places-done}
use Rattle.geometry_bytes.specs.Geometry.{FitsPoint}
use Rattle.leaf_codec.specs.Sheets.{leaf_follows}
use Rattle.leaf_codec.specs.Edits.{FitsEdit, is_edit}
use Rattle.leaf_codec.specs.Replies.{FitsReply, is_reply, reply_follows}
use Rattle.leaf_codec.specs.Entries.{flag_number, flag_bytes, box_bytes, entry_bytes, is_box, least_leaves, most_leaves, replies_of, flag, corners, entry, KeepsEntryRules, IsEntrySpelling}
use Rattle.geometry_bytes.proofs.GeometrySpells.{Spells-point}
use Rattle.leaf_codec.proofs.SheetSpells.{LeafRule, Spells-leaves, Places-leaves}
use Rattle.leaf_codec.proofs.EditSpells.{Spells-edit}
use Rattle.leaf_codec.proofs.ReplySpells.{Spells-reply}
use Rattle.leaf_codec.specs.declared.formats.TheConstants.{ENTRY_TAG, MOST_UNITS, NEWEST}
use Rattle.oemm_limits.specs.declared.TheConstants.{LAST_LANE, MOST_EDITS}

flag_is : (n : ℕ) → n ≤ 1 → flag_number (eqb n 1) ≡ n
flag_is zero h = refl
flag_is (suc zero) h = refl
flag_is (suc (suc n)) h = absurd (omega arith)

flag_back : (b : Bool) → eqb (flag_number b) 1 ≡ b
flag_back true = refl
flag_back false = refl

Spells-flag : Spells flag flag_bytes (λ b. Always × ((flag_number b < 2 ^ 8) × (is_in 0 1 (flag_number b) ≡ true)))
unfolding flag flag_bytes
Spells-flag =
    Spells-last (Spells-unit Spells-u8 (is_in 0 1)) flag_number (λ n. eqb n 1)
    (λ n h. (tt, flag_is n (is_in-high _ _ _ h.1))) (λ b e h. flag_back b)

flag_fits : (b : Bool) → Always × ((flag_number b < 2 ^ 8) × (is_in 0 1 (flag_number b) ≡ true))
flag_fits true = (tt, (omega arith, is_in-from _ _ _ (omega arith) (omega arith)))
flag_fits false = (tt, (omega arith, is_in-from _ _ _ (omega arith) (omega arith)))

Places-flag : Places flag
unfolding flag
Places-flag =
    Places-then (Spells-unit Spells-u8 (is_in 0 1)) (Places-unit Spells-u8 (is_in 0 1)) λ n _. Places-done (eqb n 1)

Spells-corners : Spells corners box_bytes (λ b. Always × (FitsPoint b.0 × FitsPoint b.1))
unfolding corners box_bytes
Spells-corners =
    Spells-then Spells-point (λ b. b.0) λ low _.
    Spells-last Spells-point (λ b. b.1) (λ high. (low, high)) (λ high _. ((tt, refl), refl)) (λ b e _. rw (← e.1) refl)

-- what is read and written of a format and an entry, field by field
unfoldable pub EntryRule : ℕ × NumberedEntry → Type 0
EntryRule b =
    let n = b.1 in
    let e = n.entry in
    let t = e.task in
    Always
    × (((ENTRY_TAG < 2 ^ 32) × (eqb ENTRY_TAG ENTRY_TAG ≡ true)) ×
    (((b.0 < 2 ^ 16) × (is_in 1 NEWEST b.0 ≡ true)) ×
    ((n.number < 2 ^ 32) × (((t.lane < 2 ^ 8) × (is_in 0 LAST_LANE t.lane ≡ true)) × ((t.number < 2 ^ 32)
    × (((Always × (FitsPoint t.low × FitsPoint t.high)) × (is_box (t.low, t.high) ≡ true)) ×
    ((Always × ((flag_number e.wide < 2 ^ 8) × (is_in 0 1 (flag_number e.wide) ≡ true)))
    × (((length e.core < 2 ^ 32) × (is_in (least_leaves e.wide) (most_leaves e.wide) (length e.core) ≡ true)) ×
    (((length e.core ≡ length e.core) × Keeps (LeafRule None) [] e.core)
    × (((length t.edits < 2 ^ 32) × (is_in 0 MOST_EDITS (length t.edits) ≡ true)) ×
    (((length t.edits ≡ length t.edits) × Keeps (λ before k. FitsEdit k × (is_edit k ≡ true)) [] t.edits)
    × ((length e.replies ≡ replies_of e.wide (length t.edits)) × Keeps
    (λ before r. FitsReply r × (reply_follows t.edits before r ≡ true)) [] e.replies))))))))))))

pub Makes-entry : Makes (λ (b : ℕ × NumberedEntry). b.1) entry (λ b. entry_bytes b.0 b.1) EntryRule
unfolding entry entry_bytes EntryRule
Makes-entry =
    Makes-then (Spells-unit Spells-u32 (λ n. eqb n ENTRY_TAG)) (λ b. ENTRY_TAG) λ tag is_tag.
    Makes-then (Spells-unit Spells-u16 (is_in 1 NEWEST)) (λ b. b.0) λ format _.
    Makes-then Spells-u32 (λ b. b.1.number) λ place _.
    Makes-then (Spells-unit Spells-u8 (is_in 0 LAST_LANE)) (λ b. b.1.entry.task.lane) λ lane _.
    Makes-then Spells-u32 (λ b. b.1.entry.task.number) λ task _.
    Makes-then (Spells-unit Spells-corners is_box) (λ b. (b.1.entry.task.low, b.1.entry.task.high)) λ box _.
    Makes-then Spells-flag (λ b. b.1.entry.wide) λ wide _.
    Makes-then (Spells-unit Spells-u32 (is_in (least_leaves wide) (most_leaves wide)))
    (λ b. length b.1.entry.core) λ nc _.
    Makes-then (Spells-leaves None nc) (λ b. b.1.entry.core) λ core are_core.
    Makes-then (Spells-unit Spells-u32 (is_in 0 MOST_EDITS)) (λ b. length b.1.entry.task.edits) λ ne _.
    Makes-then (Spells-many (λ before. Spells-unit Spells-edit is_edit) ne)
    (λ b. b.1.entry.task.edits) λ edits are_edits.
    Makes-last (Spells-many (λ before. Spells-unit Spells-reply (reply_follows edits before)) (replies_of wide ne))
    (λ b. b.1.entry.replies)
    (λ replies. (
      format,
      record {
        number = place;
        entry = record {
          task = record { lane = lane; number = task; low = box.0; high = box.1; edits = edits };
          wide = wide;
          replies =
              replies;
          core = core;
        };
      },
    ))
    (λ replies _. (
      (
        (
          (((((((((tt, sym (eqb-true _ _ is_tag.1)), refl), refl), refl), refl), refl), refl), are_core.0), refl),
          are_edits.0,
        ),
        refl,
      ),
      refl,
    ))
    (λ b e _. rw (
      ← e.0.0.0.0.0.0.0.0.0.1,
      ← e.0.0.0.0.0.0.0.0.1,
      ← e.0.0.0.0.0.0.0.1,
      ← e.0.0.0.0.0.0.1,
      ← e.0.0.0.0.0.1,
      ← e.0.0.0.0.1,
      ← e.0.0.1,
      ← e.1,
    ) refl)

from_rule : (b : ℕ × NumberedEntry) → EntryRule b → IsEntrySpelling b.0 (entry_bytes b.0 b.1) b.1
unfolding EntryRule
from_rule b h =
    let n = b.1 in
    let e = n.entry in
    let t = e.task in
    let core = Keeps-parts (λ k. k < 2 ^ 32)
    (λ before k. leaf_follows None before k ≡ true) e.core [] h.1.1.1.1.1.1.1.1.1.0.1 in
    let edits = Keeps-parts FitsEdit (λ before k. is_edit k ≡ true) t.edits [] h.1.1.1.1.1.1.1.1.1.1.1.0.1 in
    let replies =
    Keeps-parts FitsReply
    (λ before r. reply_follows t.edits before r ≡ true) e.replies [] h.1.1.1.1.1.1.1.1.1.1.1.1.1 in
    record {
      from_first = is_in-low _ _ _ h.1.1.0.1;
      to_newest = is_in-high _ _ _ h.1.1.0.1;
      fits = record {
        number = h.1.1.1.0;
        task = h.1.1.1.1.1.0;
        low = h.1.1.1.1.1.1.0.0.1.0;
        high = h.1.1.1.1.1.1.0.0.1.1;
        core = core.0;
        edits = edits.0;
        replies = replies.0;
      };
      rules = record {
        lane = is_in-high _ _ _ h.1.1.1.1.0.1;
        box = h.1.1.1.1.1.1.0.1;
        least_core = is_in-low _ _ _ h.1.1.1.1.1.1.1.1.0.1;
        most_core = is_in-high _ _ _ h.1.1.1.1.1.1.1.1.0.1;
        edit_count = is_in-high _ _ _ h.1.1.1.1.1.1.1.1.1.1.0.1;
        reply_count = h.1.1.1.1.1.1.1.1.1.1.1.1.0;
        core = core.1;
        edits = edits.1;
        replies = replies.1;
      };
      spelled = refl;
    }

few_leaves : (wide : Bool) → most_leaves wide ≤ MOST_UNITS
few_leaves true = omega arith
few_leaves false = omega arith

to_rule : (format : ℕ) (bytes : List ℕ) (n : NumberedEntry) → IsEntrySpelling format bytes n
    → (bytes ≡ entry_bytes format n) × EntryRule (format, n)
unfolding EntryRule
to_rule format bytes n h =
    let e = n.entry in
    let t = e.task in
    let r = h.rules in
    let form : (format < 2 ^ 16) × (is_in 1 NEWEST format ≡ true) =
    (let le = h.to_newest in omega arith, is_in-from _ _ _ h.from_first h.to_newest) in
    let lane : (t.lane < 2 ^ 8) × (is_in 0 LAST_LANE t.lane ≡ true) =
    (let le = r.lane in omega arith, is_in-from _ _ _ (omega arith) r.lane) in
    let nc : (length e.core < 2 ^ 32) × (is_in (least_leaves e.wide) (most_leaves e.wide) (length e.core) ≡ true) = (
      let le = r.most_core in let few =
          few_leaves e.wide in omega arith,
      is_in-from _ _ _ r.least_core r.most_core,
    ) in
    let ne : (length t.edits < 2 ^ 32) × (is_in 0 MOST_EDITS (length t.edits) ≡ true) =
    (let le = r.edit_count in omega arith, is_in-from _ _ _ (omega arith) r.edit_count) in
    let core = Keeps-both (λ k. k < 2 ^ 32)
    (λ before k. leaf_follows None before k ≡ true) e.core [] h.fits.core r.core in
    let edits = Keeps-both FitsEdit (λ before k. is_edit k ≡ true) t.edits [] h.fits.edits r.edits in
    let replies =
    Keeps-both FitsReply
    (λ before x. reply_follows t.edits before x ≡ true) e.replies [] h.fits.replies r.replies in (
      h.spelled,
      (
        tt,
        (
          (omega arith, refl),
          (
            form,
            (
              h.fits.number,
              (
                lane,
                (
                  h.fits.task,
                  (
                    ((tt, (h.fits.low, h.fits.high)), r.box),
                    (flag_fits e.wide, (nc, ((refl, core), (ne, ((refl, edits), (r.reply_count, replies)))))),
                  ),
                ),
              ),
            ),
          ),
        ),
      ),
    )

-- replies that stand beside their edits keep the ranges of replies
pub replies_sound : (edits : List Edit) (rs before : List Reply)
    → Keeps (λ b r. reply_follows edits b r ≡ true) before rs → AllByRecursion (λ r. is_reply r ≡ true) rs
unfolding reply_follows
replies_sound edits [] before h = tt
replies_sound edits (r ∷ rs) before h = ((and_parts _ _ h.0).1, replies_sound edits rs (before ++ r ∷ []) h.1)

-- where an entry's bytes are wrong
pub Places-entry : Places entry
unfolding entry
Places-entry =
    Places-then (Spells-unit Spells-u32 (λ n. eqb n ENTRY_TAG)) (Places-unit Spells-u32 (λ n. eqb n ENTRY_TAG)) λ tag _.
    Places-then (Spells-unit Spells-u16 (is_in 1 NEWEST)) (Places-unit Spells-u16 (is_in 1 NEWEST)) λ format _.
    Places-then Spells-u32 (Places-number 4) λ place _.
    Places-then (Spells-unit Spells-u8 (is_in 0 LAST_LANE)) (Places-unit Spells-u8 (is_in 0 LAST_LANE)) λ lane _.
    Places-then Spells-u32 (Places-number 4) λ task _.
    Places-then (Spells-unit Spells-corners is_box) (Places-unit Spells-corners is_box) λ box _.
    Places-then Spells-flag Places-flag λ wide _.
    Places-then (Spells-unit Spells-u32 (is_in (least_leaves wide) (most_leaves wide)))
    (Places-unit Spells-u32 (is_in (least_leaves wide) (most_leaves wide))) λ nc _.
    Places-then (Spells-leaves None nc) (Places-leaves None nc) λ core _.
    Places-then (Spells-unit Spells-u32 (is_in 0 MOST_EDITS)) (Places-unit Spells-u32 (is_in 0 MOST_EDITS)) λ ne _.
    Places-then (Spells-many (λ before. Spells-unit Spells-edit is_edit) ne)
    (Places-many _ _ _ (λ before. Spells-unit Spells-edit is_edit)
    (λ before. Places-unit Spells-edit is_edit) ne []) λ edits _.
    Places-then (Spells-many (λ before. Spells-unit Spells-reply (reply_follows edits before)) (replies_of wide ne))
    (Places-many _ _ _ (λ before. Spells-unit Spells-reply (reply_follows edits before))
    (λ before. Places-unit Spells-reply (reply_follows edits before)) (replies_of wide ne) []) λ replies _.
    Places-done (record {
      number = place;
      entry = record {
        task = record { lane = lane; number = task; low = box.0; high = box.1; edits = edits };
        wide = wide;
        replies =
            replies;
        core = core;
      };
    })

pub entry_codec : IsCodec entry KeepsEntryRules IsEntrySpelling
entry_codec = codec_of Makes-entry Places-entry from_rule to_rule (λ format bytes n h. h.rules)
