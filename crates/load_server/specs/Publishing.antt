-- What is answered after the publish turns of a load.
use Rattle.front_defs.specs.Script.{Script, Ends}
use Rattle.load_server.specs.Responses.{Response, out_of_memory}
use Rattle.load_server.specs.Scripts.{made}
use Rattle.load_server.specs.declared.publish.Outcome.{Outcome}
use Rattle.load_server.specs.declared.publish.Outcome.TheVariants as outcome

-- by how they ended: the load is visible, or late, or memory was short
abbrev pub after_publishing : (good late : Response) → Outcome → Script Response
after_publishing good late outcome.Visible = made good
after_publishing good late outcome.Late = made late
after_publishing good late outcome.NoMemory = Ends out_of_memory
