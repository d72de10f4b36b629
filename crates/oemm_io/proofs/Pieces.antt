-- A piece is cut from the front of what is left.
use Rattle.std.proofs.Common.{◌≡◌, ℕ, ◌+◌, ◌-◌, ◌≤◌, min, List, ◌++◌, length, take, drop, arith}
use Rattle.std.proofs.lemmas.List.{take-append-drop, drop-drop, take_rest, length-take}
use Rattle.std.proofs.lemmas.Grind.{common_steps}

take-take : (n m : ℕ) (xs : List ℕ) → n ≤ m → take n (take m xs) ≡ take n xs
take-take n m xs h = grind (arith, common_steps)

-- what is left at a place is the front of its piece that was copied, and what is left behind that
pub takes_piece :
    (bytes front : List ℕ) (at n m room : ℕ) →
    n ≡ min room (length (take m (take (length bytes - at) (drop at bytes)))) →
    front ≡ take n (take m (take (length bytes - at) (drop at bytes))) →
    drop at bytes ≡ front ++ drop (at + n) bytes
takes_piece bytes front at n m room count is =
    let rest = take_rest bytes at in
    let size = length-take m (take (length bytes - at) (drop at bytes)) in
    let within : n ≤ m = omega arith in
    let whole = take-take n m (take (length bytes - at) (drop at bytes)) within in
    let cut = take-append-drop n (drop at bytes) in
    let behind = drop-drop n at bytes in
    cc
