use Rattle.stored_mesh.proofs.Contents.{content_put}
use Rattle.stored_mesh.proofs.laws.put_laws.Goals as goal

pub returns : goal.returns
returns c = content_put
