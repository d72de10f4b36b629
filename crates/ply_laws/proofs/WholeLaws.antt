-- What a file is that is read without a fault.
use Rattle.std.proofs.Common.{◌≡◌, ℕ, zero, suc, ◌+◌, true, false, Bool, List, [], ◌∷◌, ◌++◌, length, None, Result, Ok, Err, if◌then◌else◌, refl, ap, ◌∙◌}
use Rattle.mesh_items.specs.Reading.{Reading, fault_alone}
use Rattle.mesh_items.specs.declared.items.Item.{Item}
use Rattle.mesh_items.specs.declared.items.Item.TheVariants.{Counts}
use Rattle.mesh_items.specs.declared.items.MeshWhy.TheVariants.{Head}
use Rattle.mesh_items.specs.declared.items.MeshFault.{MeshFault}
use Rattle.mesh_items.specs.declared.items.MeshFault.TheVariants.{Text}
use Rattle.oemm_lines.specs.declared.parts.Line.{Line}
use Rattle.oemm_lines.specs.Stream.{texts_of}
use Rattle.ply_header.specs.declared.layout.Layout.{Layout}
use Rattle.ply_header.specs.declared.layout.Header.{Header}
use Rattle.ply_header.specs.Header.{nothing_declared, ends, header_after, layout_of}
use Rattle.ply_reader.specs.Body.{Rest, item_in}
use Rattle.ply_reader.specs.Mesh.{begun_by, behind_line, counted, declared, from_first, from_header, is_first, items_of, laid, ply_reading, Stand}
use Rattle.ply_laws.specs.Lines.{behind_lines, left_behind, ply_end, ply_lines, Lead, WritesPly}
use Rattle.ply_laws.proofs.GrammarLaws.{items_whole}
use Rattle.ply_laws.proofs.LineLaws.{file_laid}

-- a file that has all that its header declares
pub file_read : (bytes : List ℕ) (layout : Layout) (items : List Item) → WritesPly bytes layout items →
    ply_reading bytes ≡ record { items = Counts layout.vertex.count layout.face.count ∷ items; fault = None }
file_read bytes layout items w =
    file_laid bytes w.first w.lines w.others w.header w.last layout w.leads w.off w.lays
    ∙ items_whole layout items (behind_line w.last (left_behind bytes w.first w.lines)) w.left w.stand w.all

-- an item that was begun without a fault
begun_item : (o : Result (Item × Rest) MeshFault) (more : Rest → Reading) → (begun_by o more).fault ≡ None → (i : Item) × (s : Rest) × (o ≡ Ok (i, s)) × ((more s).fault ≡ None)
begun_item (Ok (i, s)) more calm = (i, s, refl, calm)
begun_item (Err fault) more calm = absurd cc

-- so many items that stand one behind another
record AllStand (l : Layout) (n done : ℕ) (r : Rest) : Type 0 where
  items : List Item
  left : Rest
  stand : Stand l done items r left
  all : length items ≡ n

-- items that are read without a fault
items_stand : (l : Layout) (n done : ℕ) (r : Rest) → (items_of l n done r).fault ≡ None → AllStand l n done r
unfolding items_of Stand
items_stand l zero done r calm = record { items = []; left = r; stand = refl; all = refl }
items_stand l (suc n) done r calm =
    let first = begun_item (item_in l done r) (items_of l n (done + 1)) calm in
    let more = items_stand l n (done + 1) first.1 first.3 in
    record { items = first.0 ∷ more.items; left = more.left; stand = (first.1, first.2, more.stand); all = ap suc more.all }

-- a layout, a declaration and a choice behind which no fault is read
counted_calm : (o : Result Layout MeshFault) (r : Rest) → (counted o r).fault ≡ None → (l : Layout) × (o ≡ Ok l) × ((laid l r).fault ≡ None)
counted_calm (Ok l) r calm = (l, refl, calm)
counted_calm (Err fault) r calm = absurd cc

declared_calm : (o : Result Header MeshFault) (more : Header → Reading) → (declared o more).fault ≡ None → (h : Header) × (o ≡ Ok h) × ((more h).fault ≡ None)
declared_calm (Ok h) more calm = (h, refl, calm)
declared_calm (Err fault) more calm = absurd cc

-- lines of which some lead from a header to another and the next ends it
record Ended (all : List Line) (h : Header) (r : Rest) : Type 0 where
  lines : List Line
  last : Line
  others : List Line
  header : Header
  layout : Layout
  whole : all ≡ lines ++ last ∷ others
  lead : Lead h lines header
  off : ends header (texts_of last) ≡ true
  lays : layout_of header last.at (texts_of last) ≡ Ok layout
  calm : (laid layout (behind_line last (behind_lines lines r))).fault ≡ None

-- the first line ends the header, and another does
ended_now : (l : Line) (ls : List Line) (h : Header) (r : Rest) → ends h (texts_of l) ≡ true → (counted (layout_of h l.at (texts_of l)) (behind_line l r)).fault ≡ None → Ended (l ∷ ls) h r
unfolding Lead
ended_now l ls h r off calm =
    let layout = counted_calm (layout_of h l.at (texts_of l)) (behind_line l r) calm in
    record { lines = []; last = l; others = ls; header = h; layout = layout.0; whole = refl; lead = refl; off = off; lays = layout.1; calm = layout.2 }

ended_later : (l : Line) (ls : List Line) (h next : Header) (r : Rest) → ends h (texts_of l) ≡ false → header_after h l.at (texts_of l) ≡ Ok next → Ended ls next (behind_line l r) → Ended (l ∷ ls) h r
unfolding Lead
ended_later l ls h next r on goes e =
    record {
      lines = l ∷ e.lines;
      last = e.last;
      others = e.others;
      header = e.header;
      layout = e.layout;
      whole = ap (λ k. l ∷ k) e.whole;
      lead = (on, (next, goes, e.lead));
      off = e.off;
      lays = e.lays;
      calm = e.calm;
    }

-- a choice behind which no fault is read, by the test
chosen_calm : {A : Type 0} (b : Bool) (x y : Reading) → (b ≡ true → x.fault ≡ None → A) → (b ≡ false → y.fault ≡ None → A) → (if b then x else y).fault ≡ None → A
chosen_calm true x y on off calm = on refl calm
chosen_calm false x y on off calm = off refl calm

-- lines of a header that are read without a fault
header_written : (end : MeshFault) (ls : List Line) (h : Header) (r : Rest) → (from_header end ls h r).fault ≡ None → Ended ls h r
unfolding from_header
header_written end [] h r calm = absurd cc
header_written end (l ∷ ls) h r calm =
    chosen_calm (ends h (texts_of l)) _ _
    (λ off still. ended_now l ls h r off still)
    (λ on still. let next = declared_calm (header_after h l.at (texts_of l)) (λ g. from_header end ls g (behind_line l r)) still in
    ended_later l ls h next.0 r on next.1 (header_written end ls next.0 (behind_line l r) next.2))
    calm

-- a file of these lines
whole_file : (bytes : List ℕ) (ls : List Line) → ply_lines bytes ≡ ls → (from_first (ply_end bytes) ls (record { at = 0; bytes = bytes })).fault ≡ None → (layout : Layout) × (items : List Item) × WritesPly bytes layout items
unfolding from_first
whole_file bytes [] is calm = absurd cc
whole_file bytes (l ∷ ls) is calm =
    chosen_calm (is_first (texts_of l)) _ (fault_alone (Text l.at Head))
    (λ head still.
    let e = header_written (ply_end bytes) ls nothing_declared (behind_line l (record { at = 0; bytes = bytes })) still in
    let a = items_stand e.layout (e.layout.vertex.count + e.layout.face.count) 0 (behind_line e.last (left_behind bytes l e.lines)) e.calm in (
      e.layout,
      a.items,
      record {
        first = l;
        lines = e.lines;
        last = e.last;
        others = e.others;
        header = e.header;
        left = a.left;
        leads = record { whole = is ∙ ap (λ k. l ∷ k) e.whole; head = head; lead = e.lead };
        off = e.off;
        lays = e.lays;
        stand = a.stand;
        all = a.all;
      },
    ))
    (λ other still. absurd cc)
    calm

-- a file that is read without a fault
pub file_written : (bytes : List ℕ) → (ply_reading bytes).fault ≡ None → (layout : Layout) × (items : List Item) × WritesPly bytes layout items
file_written bytes calm = whole_file bytes (ply_lines bytes) refl calm
