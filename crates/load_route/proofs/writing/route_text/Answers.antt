use Rattle.std.proofs.Common.{rules}
use Rattle.load_route.proofs.ScriptLines.{says_route}
use Rattle.load_route.proofs.writing.route_text.Goals as goal

pub returns : goal.returns
returns c = says_route c.args.count c.put_script.new.out.items c.requires (search rules)
