-- The numbers of a quadric that are read before their bounds are tested.
use Rattle.mesh_data.specs.Planes.{Sums}
use Rattle.geometry_bytes.specs.declared.sums.Parts.{Parts}

abbrev pub sums_of_parts : Parts → Sums
sums_of_parts p = record {
  planes = p.planes;
  aa = p.aa;
  ab = p.ab;
  ac = p.ac;
  ad = p.ad;
  bb = p.bb;
  bc = p.bc;
  bd = p.bd;
  cc = p.cc;
  cd = p.cd;
  dd = p.dd;
}
