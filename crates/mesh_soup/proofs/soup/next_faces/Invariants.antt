use Rattle.std.proofs.Common.{◌≡◌, map, vec_len, All}
use Rattle.std.specs.Option.{option_map}
use Rattle.mesh_items.specs.declared.items.Item.TheVariants.{Face}
use Rattle.mesh_data.specs.Triangles.{IsProper, IsBelow}
use Rattle.mesh_soup.specs.Taken.{HasTaken}
use Rattle.mesh_soup.specs.Soup.{items_then, given_of}
use Rattle.mesh_soup.proofs.soup.next_faces.Given as goal

abbrev pub invariant-loop-place : goal.invariant-loop-place
invariant-loop-place g l = record {
  given : g.I.Items.given l.items ≡ given_of l.fn.counts.0 l.fn.counts.1 l.fn.counts.0 l._place;
  count : vec_len l.faces ≡ l._place;
  told : g.I.Items.reading l.initial.items ≡ option_map (items_then (map Face l.faces.items)) (g.I.Items.reading l.items);
  proper : All IsProper l.faces.items;
  below : All (IsBelow l.fn.counts.0) l.faces.items;
  taken : HasTaken (g.I.Items.left l.initial.items) (g.I.Items.left l.items);
  calm : g.I.Items.faults l.items ≡ g.I.Items.faults l.initial.items;
}
