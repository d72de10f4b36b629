use Rattle.std.proofs.Common.{◌≡◌, map, vec_len}
use Rattle.std.specs.Option.{option_map}
use Rattle.mesh_items.specs.declared.items.Item.TheVariants.{Vertex}
use Rattle.mesh_soup.specs.Taken.{HasTaken}
use Rattle.mesh_soup.specs.Soup.{items_then, given_of}
use Rattle.mesh_soup.proofs.soup.next_points.Given as goal

abbrev pub invariant-loop-place : goal.invariant-loop-place
invariant-loop-place g l = record {
  given : g.I.Items.given l.items ≡ given_of l.fn.counts.0 l.fn.counts.1 l._place 0;
  count : vec_len l.points ≡ l._place;
  told : g.I.Items.reading l.initial.items ≡ option_map (items_then (map Vertex l.points.items)) (g.I.Items.reading l.items);
  taken : HasTaken (g.I.Items.left l.initial.items) (g.I.Items.left l.items);
  calm : g.I.Items.faults l.items ≡ g.I.Items.faults l.initial.items;
}
