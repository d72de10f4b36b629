-- What it means for a move, and for a flip, to be done.
use Rattle.std.proofs.Common.{◌≡◌, ℕ, Bool, true, false, cond, not, ◌&&◌, List, [], ◌∷◌, ◌++◌, sym, ap, ◌∙◌, refl, Option, Some, None}
use Rattle.std.proofs.lemmas.Bool.{false≢true, and_parts}
use Rattle.std.specs.List.{list_all}
use Rattle.std.specs.Option.{is_none}
use Rattle.oemm_octree.specs.declared.points.Point.{Point}
use Rattle.mesh_data.specs.declared.edits.Reply.{Reply}
use Rattle.mesh_data.specs.Edits.{first_line, is_done, is_held, is_free, pair_lines, edge_line, flip_verdict, move_verdict}
use Rattle.mesh_data.specs.Links.{opposites}
use Rattle.mesh_data.specs.Mesh.{Mesh}
use Rattle.edit_steps.proofs.Passed.{move_passed}

-- what is so of a move that is done
pub record CanMove (inside : Point → Bool) (m : Mesh) (v : ℕ) (to : Point) : Type 0 where
  pub held : is_held inside m v ≡ true
  pub free : is_free inside m v ≡ true
  pub lands : inside to ≡ true

pub can_move : (inside : Point → Bool) (m : Mesh) (v : ℕ) (to : Point) → is_done (move_verdict inside m v to) ≡ true → CanMove inside m v to
can_move inside m v to done = let passed = move_passed inside m v to done in record { held = passed.0; free = passed.2; lands = passed.1 }

-- a flip that is done answers just that
last_or_refused : (ls : List (Bool × Reply)) (last : Reply) → list_all (λ l. not (is_done l.1 && l.0)) ls ≡ true → is_done (first_line ls last) ≡ true → first_line ls last ≡ last
last_or_refused [] last refuse done = refl
last_or_refused (l ∷ ls) last refuse done =
    let parts = and_parts (not (is_done l.1 && l.0)) (list_all (λ k. not (is_done k.1 && k.0)) ls) refuse in
    elim l.0 as (λ b. not (is_done l.1 && b) ≡ true → is_done (cond b l.1 (first_line ls last)) ≡ true → cond b l.1 (first_line ls last) ≡ last) [
      | true ↦ λ no yes. absurd (false≢true (sym (ap (λ b. not (b && true)) yes) ∙ no))
      | false ↦ λ no yes. last_or_refused ls last parts.1 yes
    ] parts.0 done

pub flip_done : (inside : Point → Bool) (m : Mesh) (a b : ℕ) → is_done (flip_verdict inside m a b) ≡ true → flip_verdict inside m a b ≡ Reply.Done
flip_done inside m a b done =
    let edge : (o : _) → not (is_done (edge_line m.tris o).1 && (edge_line m.tris o).0) ≡ true = λ (o : Option (ℕ × ℕ)). elim o as (λ o. not (is_done (edge_line m.tris o).1 && (edge_line m.tris o).0) ≡ true) [ None ↦ refl | Some ends ↦ refl ] in
    last_or_refused (pair_lines inside m a b ++ ((is_none (opposites m.tris a b), Reply.Border) ∷ edge_line m.tris (opposites m.tris a b) ∷ [])) Reply.Done (ap (λ b. b && true) (edge (opposites m.tris a b))) done
