-- The index is read as it is spelled.
use Rattle.std.proofs.Common.{◌≡◌, ℕ, ◌<◌, ◌≤◌, ◌^◌, List, [], length, true, Ok, refl, sym, ap, subst, ◌∙◌, arith, eqb, FitsSigned}
use Rattle.std.specs.Int.{w32}
use Rattle.std.proofs.lemmas.Bool.{eqb-true}
use Rattle.sheet_data.specs.declared.index.IndexSheet.{IndexSheet}
use Rattle.byte_grammar.specs.Reader.{is_in}
use Rattle.byte_grammar.specs.Keeps.{Keeps, Always}
use Rattle.byte_grammar.proofs.Spells.{Spells, Spells-then, Spells-last, Spells-unit, Spells-many, Keeps-parts, Keeps-both, is_in-low, is_in-high, is_in-from}
use Rattle.byte_grammar.proofs.NumberSpells.{Spells-u8, Spells-u16, Spells-u32, Spells-i32}
use Rattle.byte_grammar.specs.Codec.{IsCodec}
use Rattle.byte_grammar.proofs.Codecs.{codec_of}
use Rattle.byte_grammar.proofs.Variants.{Makes, Makes-then, Makes-last}
use Rattle.byte_grammar.proofs.Places.{Places, Places-then, Places-unit, Places-number, Places-signed, Places-many, Places-done}
use Rattle.leaf_codec.specs.Index.{cell_bytes, index_bytes, is_cell, cell, index, FitsCell, KeepsIndexRules, IsIndexSpelling}
use Rattle.leaf_codec.specs.declared.formats.TheConstants.{INDEX_TAG, NEWEST}
use Rattle.oemm_limits.specs.declared.TheConstants.{MOST_CAP, MOST_CORE, MOST_LEAVES}
use Rattle.oemm_limits.specs.declared.TheConstants.{MOST_ITEMS}

pub Spells-cell : Spells cell cell_bytes FitsCell
unfolding cell cell_bytes
Spells-cell =
    Spells-then Spells-u8 (λ t. t.depth) λ depth _.
    Spells-then Spells-u8 (λ t. t.x) λ x _.
    Spells-then Spells-u8 (λ t. t.y) λ y _.
    Spells-last Spells-u8 (λ t. t.z) (λ z. record { depth = depth; x = x; y = y; z = z })
    (λ z _. ((((tt, refl), refl), refl), refl)) (λ t e _. rw (← e.0.0.1, ← e.0.1, ← e.1) refl)

-- what is read and written of a format and an index, field by field
unfoldable pub IndexRule : ℕ × IndexSheet → Type 0
IndexRule b =
    let s = b.1 in
    Always
    × (((INDEX_TAG < 2 ^ 32) × (eqb INDEX_TAG INDEX_TAG ≡ true)) ×
    (((b.0 < 2 ^ 16) × (is_in 1 NEWEST b.0 ≡ true)) ×
    (((s.cap < 2 ^ 32) × (is_in 1 MOST_CAP s.cap ≡ true)) × (((s.core < 2 ^ 32) × (is_in 1 MOST_CORE s.core ≡ true))
    × (((s.vertices < 2 ^ 32) × (is_in 0 MOST_ITEMS s.vertices ≡ true)) ×
    (((s.faces < 2 ^ 32) × (is_in 0 MOST_ITEMS s.faces ≡ true)) × (FitsSigned w32 s.euler × ((s.border < 2 ^ 32)
    × (((length s.cells < 2 ^ 32) × (is_in 1 MOST_LEAVES (length s.cells) ≡ true)) ×
    ((length s.cells ≡ length s.cells) × Keeps (λ before c. FitsCell c × (is_cell c ≡ true)) [] s.cells))))))))))

pub Makes-index : Makes (λ (b : ℕ × IndexSheet). b.1) index (λ b. index_bytes b.0 b.1) IndexRule
unfolding index index_bytes IndexRule
Makes-index =
    Makes-then (Spells-unit Spells-u32 (λ n. eqb n INDEX_TAG)) (λ b. INDEX_TAG) λ tag is_tag.
    Makes-then (Spells-unit Spells-u16 (is_in 1 NEWEST)) (λ b. b.0) λ format _.
    Makes-then (Spells-unit Spells-u32 (is_in 1 MOST_CAP)) (λ b. b.1.cap) λ cap _.
    Makes-then (Spells-unit Spells-u32 (is_in 1 MOST_CORE)) (λ b. b.1.core) λ core _.
    Makes-then (Spells-unit Spells-u32 (is_in 0 MOST_ITEMS)) (λ b. b.1.vertices) λ vertices _.
    Makes-then (Spells-unit Spells-u32 (is_in 0 MOST_ITEMS)) (λ b. b.1.faces) λ faces _.
    Makes-then Spells-i32 (λ b. b.1.euler) λ euler _.
    Makes-then Spells-u32 (λ b. b.1.border) λ border _.
    Makes-then (Spells-unit Spells-u32 (is_in 1 MOST_LEAVES)) (λ b. length b.1.cells) λ n _.
    Makes-last (Spells-many (λ before. Spells-unit Spells-cell is_cell) n) (λ b. b.1.cells)
    (λ cells. (
      format,
      record
          { cap = cap; core = core; vertices = vertices; faces = faces; euler = euler; border = border; cells = cells },
    ))
    (λ cells are_cells. (
      (((((((((tt, sym (eqb-true _ _ is_tag.1)), refl), refl), refl), refl), refl), refl), refl), are_cells.0),
      refl,
    ))
    (λ b e _. rw
    (← e.0.0.0.0.0.0.0.1, ← e.0.0.0.0.0.0.1, ← e.0.0.0.0.0.1, ← e.0.0.0.0.1, ← e.0.0.0.1, ← e.0.0.1, ← e.0.1) refl)

from_rule : (b : ℕ × IndexSheet) → IndexRule b → IsIndexSpelling b.0 (index_bytes b.0 b.1) b.1
unfolding IndexRule
from_rule b h =
    let s = b.1 in
    let cells = Keeps-parts FitsCell (λ before c. is_cell c ≡ true) s.cells [] h.1.1.1.1.1.1.1.1.1.1.1 in
    record {
      from_first = is_in-low _ _ _ h.1.1.0.1;
      to_newest = is_in-high _ _ _ h.1.1.0.1;
      fits = record { euler = h.1.1.1.1.1.1.1.0; border = h.1.1.1.1.1.1.1.1.0; cells = cells.0 };
      rules = record {
        least_cap = is_in-low _ _ _ h.1.1.1.0.1;
        most_cap = is_in-high _ _ _ h.1.1.1.0.1;
        least_core = is_in-low _ _ _ h.1.1.1.1.0.1;
        most_core = is_in-high _ _ _ h.1.1.1.1.0.1;
        vertices = is_in-high _ _ _ h.1.1.1.1.1.0.1;
        faces = is_in-high _ _ _ h.1.1.1.1.1.1.0.1;
        least_cells = is_in-low _ _ _ h.1.1.1.1.1.1.1.1.1.0.1;
        most_cells = is_in-high _ _ _ h.1.1.1.1.1.1.1.1.1.0.1;
        cells = cells.1;
      };
      spelled = refl;
    }

ranged : (low high n : ℕ) → low ≤ n → n ≤ high → high < 2 ^ 32 → (n < 2 ^ 32) × (is_in low high n ≡ true)
ranged low high n f g small = (omega arith, is_in-from _ _ _ f g)

to_rule : (format : ℕ) (bytes : List ℕ) (s : IndexSheet) → IsIndexSpelling format bytes s
    → (bytes ≡ index_bytes format s) × IndexRule (format, s)
unfolding IndexRule
to_rule format bytes s h =
    let r = h.rules in
    let form : (format < 2 ^ 16) × (is_in 1 NEWEST format ≡ true) =
    (let le = h.to_newest in omega arith, is_in-from _ _ _ h.from_first h.to_newest) in
    let cap = ranged 1 MOST_CAP s.cap r.least_cap r.most_cap (omega arith) in
    let core = ranged 1 MOST_CORE s.core r.least_core r.most_core (omega arith) in
    let vertices = ranged 0 MOST_ITEMS s.vertices (omega arith) r.vertices (omega arith) in
    let faces = ranged 0 MOST_ITEMS s.faces (omega arith) r.faces (omega arith) in
    let n = ranged 1 MOST_LEAVES (length s.cells) r.least_cells r.most_cells (omega arith) in
    let cells = Keeps-both FitsCell (λ before c. is_cell c ≡ true) s.cells [] h.fits.cells r.cells in (
      h.spelled,
      (
        tt,
        (
          (omega arith, refl),
          (form, (cap, (core, (vertices, (faces, (h.fits.euler, (h.fits.border, (n, (refl, cells))))))))),
        ),
      ),
    )

-- where an index's bytes are wrong
pub Places-index : Places index
unfolding index
Places-index =
    let mesh = Places-unit Spells-u32 (is_in 0 MOST_ITEMS) in
    Places-then (Spells-unit Spells-u32 (λ n. eqb n INDEX_TAG)) (Places-unit Spells-u32 (λ n. eqb n INDEX_TAG)) λ tag _.
    Places-then (Spells-unit Spells-u16 (is_in 1 NEWEST)) (Places-unit Spells-u16 (is_in 1 NEWEST)) λ format _.
    Places-then (Spells-unit Spells-u32 (is_in 1 MOST_CAP)) (Places-unit Spells-u32 (is_in 1 MOST_CAP)) λ cap _.
    Places-then (Spells-unit Spells-u32 (is_in 1 MOST_CORE)) (Places-unit Spells-u32 (is_in 1 MOST_CORE)) λ core _.
    Places-then (Spells-unit Spells-u32 (is_in 0 MOST_ITEMS)) mesh λ vertices _.
    Places-then (Spells-unit Spells-u32 (is_in 0 MOST_ITEMS)) mesh λ faces _.
    Places-then Spells-i32 (Places-signed w32 4) λ euler _.
    Places-then Spells-u32 (Places-number 4) λ border _.
    Places-then (Spells-unit Spells-u32 (is_in 1 MOST_LEAVES)) (Places-unit Spells-u32 (is_in 1 MOST_LEAVES)) λ n _.
    Places-then (Spells-many (λ before. Spells-unit Spells-cell is_cell) n)
    (Places-many _ _ _ (λ before. Spells-unit Spells-cell is_cell)
    (λ before. Places-unit Spells-cell is_cell) n []) λ cells _.
    Places-done (record
    { cap = cap; core = core; vertices = vertices; faces = faces; euler = euler; border = border; cells = cells })

pub index_codec : IsCodec index KeepsIndexRules IsIndexSpelling
index_codec = codec_of Makes-index Places-index from_rule to_rule (λ format bytes s h. h.rules)
