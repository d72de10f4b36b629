-- What the bytes of a source lead to.
use Rattle.std.proofs.Common.{◌≡◌, ℕ, ◌<◌, Bool, List, [], ◌∷◌, ◌++◌, length, take, Some, None, Result, IfSome, refl, subst, sym, ap, ◌∙◌, arith}
use Rattle.std.specs.Option.{option_map}
use Rattle.std.specs.Prelude.{codes}
use Rattle.std.specs.Str.{bytes_eq}
use Rattle.fault_counts.specs.Told.{Told, Takes, IsAtEnd}
use Rattle.mesh_data.specs.declared.geometry.Soup.{Soup}
use Rattle.mesh_items.specs.declared.items.MeshFault.{MeshFault}
use Rattle.mesh_items.specs.Reading.{soup}
use Rattle.ply_reader.specs.Mesh.{begins_as_ply}
use Rattle.oemm_run.specs.Soup.{limited, soup_of, reading_in, GivesSoup}

-- fewer bytes than three in front are all of them, and so the first three are those of the front
same_front : (front rest : List ℕ) → (length front < 3 → rest ≡ []) → take 3 (front ++ rest) ≡ take 3 front
same_front [] rest short = ap (take 3) (short (omega arith))
same_front (a ∷ []) rest short = ap (λ xs. take 3 (a ∷ xs)) (short (omega arith))
same_front (a ∷ b ∷ []) rest short = ap (λ xs. take 3 (a ∷ b ∷ xs)) (short (omega arith))
same_front (a ∷ b ∷ c ∷ front) rest short = refl

-- what is answered of the bytes of a front and of those behind it is answered of the source
pub gives_behind_front :
    (before after : Told) (front : List ℕ) (is_ply : Bool) (r : Result Soup MeshFault) → Takes before after front →
    (length front < 3 → IsAtEnd after) → is_ply ≡ begins_as_ply front →
    IfSome (option_map (λ rest. front ++ rest) after) (λ bytes. GivesSoup r (soup (limited (reading_in is_ply bytes)))) →
    IfSome before (λ bytes. GivesSoup r (soup_of bytes))
unfolding soup_of
gives_behind_front before None front is_ply r taken end told gives =
    subst (λ left. IfSome left (λ bytes. GivesSoup r (soup (limited (reading_in (begins_as_ply bytes) bytes))))) (sym taken) tt
gives_behind_front before (Some rest) front is_ply r taken end told gives =
    let same : is_ply ≡ begins_as_ply (front ++ rest) = told ∙ ap (λ first. bytes_eq first (codes "ply")) (sym (same_front front rest end)) in
    subst (λ left. IfSome left (λ bytes. GivesSoup r (soup (limited (reading_in (begins_as_ply bytes) bytes))))) (sym taken)
    (subst (λ test. GivesSoup r (soup (limited (reading_in test (front ++ rest))))) same gives)
