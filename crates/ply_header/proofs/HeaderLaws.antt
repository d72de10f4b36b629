-- Foreign elements that are kept, and those that the end of a header lets go.
use Rattle.std.proofs.Common.{◌≡◌, ℕ, true, false, inl, inr, List, Option, Some, None, is_none, refl, ap, sym, ◌∙◌}
use Rattle.ply_header.specs.declared.layout.ByteOrder.{ByteOrder}
use Rattle.ply_header.specs.declared.layout.Role.TheVariants.{Foreign}
use Rattle.ply_header.specs.declared.layout.Element.{Element}
use Rattle.ply_header.specs.declared.layout.Header.{Header}
use Rattle.ply_header.specs.Header.{placed_element, closed_by, closed, laid_out, KeepsElement}

-- in front of the vertices, and in front of the faces
pub kept_before : (e : Element) (h : Header) → is_none h.vertex ≡ true → KeepsElement h (placed_element e Foreign h)
kept_before e h first = (e, inl (rw first refl))

pub kept_between : (e : Element) (h : Header) → is_none h.vertex ≡ false → is_none h.face ≡ true → KeepsElement h (placed_element e Foreign h)
kept_between e h second first = (e, inr (rw (second, first) refl))

-- a foreign element that isn't kept changes no layout
over_fields :
    (at : ℕ) (e : Element) (order : Option ByteOrder) (before between : List Element) (last : Option Element) (vertex face : Option Element) →
    let h : Header = record { order = order; before = before; vertex = vertex; between = between; face = face; last = last } in
    laid_out at (record h { last = None }) ≡ laid_out at (placed_element e Foreign h)
unfolding laid_out
over_fields at e order before between last None face = refl
over_fields at e order before between last (Some v) None = refl
over_fields at e order before between last (Some v) (Some f) = refl

pub foreign_ends :
    (at : ℕ) (e : Element) (h : Header) (last : Option Element) → h.last ≡ Some e → e.role ≡ Foreign → last ≡ None →
    laid_out at (record h { last = last }) ≡ laid_out at (closed h)
foreign_ends at e h last is foreign none =
    ap (λ l. laid_out at (record h { last = l })) none
    ∙ over_fields at e h.order h.before h.between h.last h.vertex h.face
    ∙ ap (λ role. laid_out at (placed_element e role h)) (sym foreign)
    ∙ ap (λ l. laid_out at (closed_by l h)) (sym is)
