-- The command line.
use Rattle.std.specs.Prelude.{ℕ, Bool, not, ◌&&◌, ◌||◌, nat_eq, List, [], ◌∷◌, Option, Some, None, if◌then◌else◌, codes, is_some}
use Rattle.std.specs.List.{starts_with, ends_with}
use Rattle.std.specs.Option.{option_map}
use Rattle.std.specs.Str.{bytes_eq}
use Rattle.oemm_limits.specs.declared.TheConstants.{DEFAULT_CAP, DEFAULT_CORE, DEFAULT_CACHE}
use Rattle.mesh_out.specs.declared.form.Form.{Form}
use Rattle.mesh_out.specs.declared.form.Form.TheVariants.{Off, Ply}
use Rattle.oemm_words.specs.declared.orders.Order.{Order}
use Rattle.oemm_words.specs.declared.orders.Order.TheVariants.{Run}
use Rattle.oemm_words.specs.declared.orders.Roles.{Roles}

-- a word that is no option: `-` alone, or one that doesn't begin with `-`
abbrev pub is_plain : List ℕ → Bool
is_plain word = bytes_eq word (codes "-") || not (starts_with nat_eq word (codes "-"))

-- the format that the ending of a word names, if it names one
abbrev pub form_named : List ℕ → Option Form
form_named word =
    if ends_with nat_eq word (codes ".off") then Some Off
    else if ends_with nat_eq word (codes ".ply") then Some Ply
    else None

-- the format that is to be written, if the words are the command to run a script on a mesh
abbrev pub run_form : List ℕ → List ℕ → List ℕ → List ℕ → Option Form
run_form command mesh script out =
    if bytes_eq command (codes "run") && is_plain mesh && is_plain script && is_plain out then form_named out else None

-- what the words ask for, if they are in a form
abbrev pub order_of : List (List ℕ) → Option Order
order_of (command ∷ mesh ∷ script ∷ out ∷ []) =
    option_map (λ form. Run mesh script out form DEFAULT_CAP DEFAULT_CORE DEFAULT_CACHE 1) (run_form command mesh script out)
order_of _ = None

-- the format of the mesh that the words ask for
abbrev pub form_asked : Option Order → Form
form_asked (Some (Run mesh script out form cap core cache workers)) = form
form_asked None = Off

abbrev pub form_of : List (List ℕ) → Form
form_of words = form_asked (order_of words)

-- the places of the words of a run
abbrev pub run_roles : Roles
run_roles = record { mesh = Some 1; script = Some 2; out = Some 3; store = None; workers = 1 }

-- which word is which, if the words are in a form
abbrev pub roles_of : List (List ℕ) → Option Roles
roles_of words = if is_some (order_of words) then Some run_roles else None
