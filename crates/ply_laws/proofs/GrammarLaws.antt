-- What follows of the grammar alone.
use Rattle.std.proofs.Common.{◌≡◌, ◌≢◌, ℕ, ◌+◌, ◌-◌, ◌<◌, ◌&&◌, true, false, List, [], ◌∷◌, ◌++◌, length, codes, Option, Some, None, Ok, Err, refl, ap, sym, ◌∙◌, append-nil, arith}
use Rattle.std.specs.Option.{is_some}
use Rattle.std.specs.Str.{bytes_eq}
use Rattle.std.proofs.Math.Bool.{and-false}
use Rattle.mesh_items.specs.Reading.{Reading, item_then, nothing_more}
use Rattle.mesh_items.specs.declared.items.Item.{Item}
use Rattle.mesh_items.specs.declared.items.Item.TheVariants.{Counts}
use Rattle.mesh_items.specs.declared.items.MeshFault.{MeshFault}
use Rattle.oemm_lines.specs.declared.parts.Line.{Line}
use Rattle.oemm_lines.specs.Stream.{texts_of}
use Rattle.ply_header.specs.declared.layout.ByteOrder.{ByteOrder}
use Rattle.ply_header.specs.declared.layout.Layout.{Layout}
use Rattle.ply_header.specs.declared.layout.Header.{Header}
use Rattle.ply_header.specs.Header.{ends, header_after, is_remark, layout_of}
use Rattle.ply_reader.specs.Body.{Rest, item_in}
use Rattle.ply_reader.specs.Mesh.{begun_by, behind_line, counted, from_header, items_of, laid, Stand}
use Rattle.ply_laws.specs.Elements.{element_line, property_line, format_line}
use Rattle.ply_reader.proofs.ItemLaws.{items_suc}
use Rattle.ply_laws.proofs.HeaderLaws.{differ}

pub blank_line : (h : Header) (at : ℕ) → header_after h at [] ≡ Ok h
unfolding header_after
blank_line h at = refl

pub remark_line : (h : Header) (at : ℕ) (word : List ℕ) (words : List (List ℕ)) → is_remark word ≡ true → header_after h at (word ∷ words) ≡ Ok h
unfolding header_after
remark_line h at word words is = rw is refl

-- a first word that ends no header
on_by : (h : Header) (word : List ℕ) (words : List (List ℕ)) → bytes_eq word (codes "end_header") ≡ false → ends h (word ∷ words) ≡ false
on_by h word words other = ap (λ b. is_some h.order && b) other ∙ and-false (is_some h.order)

-- the line of an element, that of a property and that of the format
pub element_on : (h : Header) (words : List (List ℕ)) → ends h (element_line words) ≡ false
element_on h words = on_by h (codes "element") words refl

pub property_on : (h : Header) (words : List (List ℕ)) → ends h (property_line words) ≡ false
property_on h words = on_by h (codes "property") words refl

pub format_on : (h : Header) (name : List ℕ) → ends h (format_line name) ≡ false
format_on h name = on_by h (codes "format") (name ∷ codes "1.0" ∷ []) refl

-- a line that begins otherwise
pub other_on : (h : Header) (word : List ℕ) (words : List (List ℕ)) → word ≢ codes "end_header" → ends h (word ∷ words) ≡ false
other_on h word words other = on_by h word words (differ word (codes "end_header") other)

-- a line before that of the format
pub unknown_on : (h : Header) (words : List (List ℕ)) → h.order ≡ None → ends h words ≡ false
unknown_on h [] unknown = refl
unknown_on h (word ∷ words) unknown = ap (λ (o : Option ByteOrder). is_some o && bytes_eq word (codes "end_header")) unknown

pub header_ended : (h : Header) (line : Line) (lines : List Line) (fault : MeshFault) (r : Rest) → ends h (texts_of line) ≡ true → from_header fault (line ∷ lines) h r ≡ counted (layout_of h line.at (texts_of line)) (behind_line line r)
unfolding from_header
header_ended h line lines fault r is = rw is refl

pub header_end : (h : Header) (line : Line) (lines others : List Line) (fault other : MeshFault) (r : Rest) → ends h (texts_of line) ≡ true → from_header fault (line ∷ lines) h r ≡ from_header other (line ∷ others) h r
header_end h line lines others fault other r is = header_ended h line lines fault r is ∙ sym (header_ended h line others other r is)

-- items in front of a reading
abbrev led_by : List Item → Reading → Reading
led_by items r = record { items = items ++ r.items; fault = r.fault }

stand_items : (l : Layout) (m n done : ℕ) (items : List Item) (r s : Rest) → m ≡ length items + n → Stand l done items r s → items_of l m done r ≡ led_by items (items_of l n (done + length items) s)
unfolding Stand
stand_items l m n done [] r s more stand =
    ap (λ k. items_of l k done r) (let e : m ≡ n = omega (arith, more) in e)
    ∙ ap (items_of l n done) stand
    ∙ ap (λ d. items_of l n d s) (let e : done ≡ done + 0 = omega arith in e)
stand_items l m n done (i ∷ items) r s more stand =
    items_suc l m (length items + n) done r (omega (arith, more))
    ∙ ap (λ o. begun_by o (items_of l (length items + n) (done + 1))) stand.1
    ∙ ap (item_then i) (stand_items l (length items + n) n (done + 1) items stand.0 s refl stand.2)
    ∙ ap (λ d. item_then i (led_by items (items_of l n d s))) (let e : done + 1 + length items ≡ done + length (i ∷ items) = omega arith in e)

items_none : (l : Layout) (done : ℕ) (r : Rest) → items_of l 0 done r ≡ nothing_more
unfolding items_of
items_none l done r = refl

pub items_whole : (l : Layout) (items : List Item) (r s : Rest) → Stand l 0 items r s → length items ≡ l.vertex.count + l.face.count → laid l r ≡ record { items = Counts l.vertex.count l.face.count ∷ items; fault = None }
items_whole l items r s stand all =
    let counts = Counts l.vertex.count l.face.count in
    ap (item_then counts) (stand_items l (l.vertex.count + l.face.count) 0 0 items r s (omega (arith, all)) stand)
    ∙ ap (λ q. item_then counts (led_by items q)) (items_none l (0 + length items) s)
    ∙ ap (λ (js : List Item). record { items = counts ∷ js; fault = None }) (append-nil items)

pub items_stopped : (l : Layout) (items : List Item) (r s : Rest) (fault : MeshFault) → Stand l 0 items r s → length items < l.vertex.count + l.face.count → item_in l (length items) s ≡ Err fault → laid l r ≡ record { items = Counts l.vertex.count l.face.count ∷ items; fault = Some fault }
items_stopped l items r s fault stand more stops =
    let counts = Counts l.vertex.count l.face.count in
    let left = l.vertex.count + l.face.count - length items in
    ap (item_then counts) (stand_items l (l.vertex.count + l.face.count) left 0 items r s (omega (arith, more)) stand)
    ∙ ap (λ q. item_then counts (led_by items q)) (items_suc l left (left - 1) (0 + length items) s (omega (arith, more)))
    ∙ ap (λ d. item_then counts (led_by items (begun_by (item_in l d s) (items_of l (left - 1) (0 + length items + 1))))) (let e : 0 + length items ≡ length items = omega arith in e)
    ∙ ap (λ o. item_then counts (led_by items (begun_by o (items_of l (left - 1) (0 + length items + 1))))) stops
    ∙ ap (λ (js : List Item). record { items = counts ∷ js; fault = Some fault }) (append-nil items)
