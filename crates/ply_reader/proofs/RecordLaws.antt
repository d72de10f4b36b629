-- The properties of a record, one behind another.
use Rattle.std.proofs.Common.{◌≡◌, ℕ, ◌+◌, ◌<◌, ◌≤◌, List, [], ◌∷◌, length, get_or, drop, Option, Some, None, refl, ap, sym, ◌∙◌}
use Rattle.std.specs.Option.{option_map}
use Rattle.std.proofs.lemmas.List.{drop_all}
use Rattle.mesh_items.specs.declared.items.MeshFault.{MeshFault}
use Rattle.ply_header.specs.declared.layout.Property.{Property}
use Rattle.ply_reader.specs.declared.values.Values.{Values}
use Rattle.ply_reader.specs.declared.values.Record.{Record}
use Rattle.ply_reader.specs.Body.{Rest, property_in, properties_in}
use Rattle.ply_reader.specs.Feed.{found, Fails}
use Rattle.ply_reader.proofs.StepLaws.{and_then, finds_then, fails_then}
use Rattle.ply_reader.proofs.BodyLaws.{from_place}

properties_cons : (rec : Record) (p : Property) (ps : List Property) (v : Values) (old : Option Rest) → option_map (and_then (property_in rec p v) (properties_in rec ps)) old ≡ option_map (properties_in rec (p ∷ ps) v) old
unfolding properties_in
properties_cons rec p ps v None = refl
properties_cons rec p ps v (Some r) = refl

pub property_next :
    (rec : Record) (ps : List Property) (i : ℕ) (d : Property) (v w : Values) (old mid : Option Rest) → i < length ps →
    option_map (property_in rec (get_or ps i d) v) old ≡ option_map (found w) mid →
    option_map (properties_in rec (drop (i + 1) ps) w) mid ≡ option_map (properties_in rec (drop i ps) v) old
property_next rec ps i d v w old mid below finds =
    finds_then (property_in rec (get_or ps i d) v) (properties_in rec (drop (i + 1) ps)) w old mid finds
    ∙ properties_cons rec (get_or ps i d) (drop (i + 1) ps) v old
    ∙ ap (λ qs. option_map (properties_in rec qs v) old) (sym (from_place ps i d below))

fails_cons : (rec : Record) (p : Property) (ps : List Property) (v : Values) (old new : Option Rest) (fault : MeshFault) → Fails (and_then (property_in rec p v) (properties_in rec ps)) old fault new → Fails (properties_in rec (p ∷ ps) v) old fault new
unfolding properties_in
fails_cons rec p ps v old new fault fails = fails

pub property_stops :
    (rec : Record) (ps : List Property) (i : ℕ) (d : Property) (v : Values) (old new : Option Rest) (fault : MeshFault) → i < length ps →
    Fails (property_in rec (get_or ps i d) v) old fault new → Fails (properties_in rec (drop i ps) v) old fault new
property_stops rec ps i d v old new fault below fails =
    rw (from_place ps i d below)
    (fails_cons rec (get_or ps i d) (drop (i + 1) ps) v old new fault (fails_then (property_in rec (get_or ps i d) v) (properties_in rec (drop (i + 1) ps)) old new fault fails))

properties_none : (rec : Record) (v : Values) (old : Option Rest) → option_map (properties_in rec [] v) old ≡ option_map (found v) old
unfolding properties_in
properties_none rec v None = refl
properties_none rec v (Some r) = refl

pub properties_done : (rec : Record) (ps : List Property) (i : ℕ) (v : Values) (old : Option Rest) → length ps ≤ i → option_map (properties_in rec (drop i ps) v) old ≡ option_map (found v) old
properties_done rec ps i v old all = ap (λ qs. option_map (properties_in rec qs v) old) (drop_all i ps all) ∙ properties_none rec v old
