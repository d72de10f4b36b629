-- What a whole file says, by its lines.
use Rattle.std.proofs.Common.{◌≡◌, ℕ, true, false, List, [], ◌∷◌, ◌++◌, Ok, Err, refl, ap, ◌∙◌}
use Rattle.mesh_items.specs.Reading.{fault_alone}
use Rattle.mesh_items.specs.declared.items.MeshWhy.TheVariants.{Head}
use Rattle.mesh_items.specs.declared.items.MeshFault.{MeshFault}
use Rattle.mesh_items.specs.declared.items.MeshFault.TheVariants.{Text}
use Rattle.oemm_lines.specs.declared.parts.Line.{Line}
use Rattle.oemm_lines.specs.Stream.{texts_of}
use Rattle.ply_header.specs.declared.layout.Layout.{Layout}
use Rattle.ply_header.specs.declared.layout.Header.{Header}
use Rattle.ply_header.specs.Header.{nothing_declared, ends, header_after, layout_of}
use Rattle.ply_reader.specs.Body.{Rest}
use Rattle.ply_reader.specs.Mesh.{behind_line, counted, declared, from_first, from_header, is_first, laid, ply_reading}
use Rattle.ply_laws.specs.Lines.{behind_lines, left_behind, ply_end, ply_lines, Lead, Leads}
use Rattle.ply_laws.proofs.GrammarLaws.{header_ended}

-- no line is left
header_none : (end : MeshFault) (h : Header) (r : Rest) → from_header end [] h r ≡ fault_alone end
unfolding from_header
header_none end h r = refl

-- a line that doesn't end the header
header_on : (end : MeshFault) (l : Line) (rest : List Line) (h : Header) (r : Rest) → ends h (texts_of l) ≡ false →
    from_header end (l ∷ rest) h r ≡ declared (header_after h l.at (texts_of l)) (λ next. from_header end rest next (behind_line l r))
unfolding from_header
header_on end l rest h r on = rw on

-- lines that lead to a header, and those behind them
header_led : (end : MeshFault) (lines rest : List Line) (h g : Header) (r : Rest) → Lead h lines g →
    from_header end (lines ++ rest) h r ≡ from_header end rest g (behind_lines lines r)
unfolding Lead
header_led end [] rest h g r lead = ap (λ k. from_header end rest k r) lead
header_led end (l ∷ lines) rest h g r lead =
    header_on end l (lines ++ rest) h r lead.0
    ∙ ap (λ o. declared o (λ next. from_header end (lines ++ rest) next (behind_line l r))) lead.1.1
    ∙ header_led end lines rest lead.1.0 g (behind_line l r) lead.1.2

-- a file without lines
pub file_empty : (bytes : List ℕ) → ply_lines bytes ≡ [] → ply_reading bytes ≡ fault_alone (ply_end bytes)
unfolding from_first
file_empty bytes none = rw none

-- a file whose first line isn't the one word ply
pub file_head : (bytes : List ℕ) (rest : List Line) (l : Line) → ply_lines bytes ≡ l ∷ rest → is_first (texts_of l) ≡ false → ply_reading bytes ≡ fault_alone (Text l.at Head)
unfolding from_first
file_head bytes rest l whole other = rw (whole, other)

-- a file whose first lines lead to a header
file_led : (bytes : List ℕ) (first : Line) (lines rest : List Line) (h : Header) → Leads bytes first lines rest h →
    ply_reading bytes ≡ from_header (ply_end bytes) rest h (left_behind bytes first lines)
unfolding from_first
file_led bytes first lines rest h leads =
    ap (λ ls. from_first (ply_end bytes) ls (record { at = 0; bytes = bytes })) leads.whole
    ∙ rw leads.head (header_led (ply_end bytes) lines rest nothing_declared h (behind_line first (record { at = 0; bytes = bytes })) leads.lead)

-- the next line declares something wrong
pub file_line : (bytes : List ℕ) (first : Line) (lines rest : List Line) (h : Header) (l : Line) (fault : MeshFault) → Leads bytes first lines (l ∷ rest) h → ends h (texts_of l) ≡ false → header_after h l.at (texts_of l) ≡ Err fault → ply_reading bytes ≡ fault_alone fault
file_line bytes first lines rest h l fault leads on wrong =
    let r : Rest = left_behind bytes first lines in
    file_led bytes first lines (l ∷ rest) h leads
    ∙ header_on (ply_end bytes) l rest h r on
    ∙ ap (λ o. declared o (λ next. from_header (ply_end bytes) rest next (behind_line l r))) wrong

-- no further line is left
pub file_no_end : (bytes : List ℕ) (first : Line) (lines : List Line) (h : Header) → Leads bytes first lines [] h → ply_reading bytes ≡ fault_alone (ply_end bytes)
file_no_end bytes first lines h leads = file_led bytes first lines [] h leads ∙ header_none (ply_end bytes) h _

-- the next line ends the header
file_ended : (bytes : List ℕ) (first : Line) (lines rest : List Line) (h : Header) (l : Line) → Leads bytes first lines (l ∷ rest) h → ends h (texts_of l) ≡ true →
    ply_reading bytes ≡ counted (layout_of h l.at (texts_of l)) (behind_line l (left_behind bytes first lines))
file_ended bytes first lines rest h l leads off =
    file_led bytes first lines (l ∷ rest) h leads
    ∙ header_ended h l rest (ply_end bytes) (left_behind bytes first lines) off

-- and it refuses the header
pub file_refused : (bytes : List ℕ) (first : Line) (lines rest : List Line) (h : Header) (l : Line) (fault : MeshFault) → Leads bytes first lines (l ∷ rest) h → ends h (texts_of l) ≡ true → layout_of h l.at (texts_of l) ≡ Err fault → ply_reading bytes ≡ fault_alone fault
file_refused bytes first lines rest h l fault leads off wrong =
    file_ended bytes first lines rest h l leads off ∙ ap (λ o. counted o (behind_line l (left_behind bytes first lines))) wrong

-- or lays it out
pub file_laid : (bytes : List ℕ) (first : Line) (lines rest : List Line) (h : Header) (l : Line) (layout : Layout) → Leads bytes first lines (l ∷ rest) h → ends h (texts_of l) ≡ true → layout_of h l.at (texts_of l) ≡ Ok layout →
    ply_reading bytes ≡ laid layout (behind_line l (left_behind bytes first lines))
file_laid bytes first lines rest h l layout leads off is =
    file_ended bytes first lines rest h l leads off ∙ ap (λ o. counted o (behind_line l (left_behind bytes first lines))) is
