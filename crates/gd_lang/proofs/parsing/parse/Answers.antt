use Rattle.gd_lang.proofs.Limits.{parsed_proper, tokens_good}
use Rattle.gd_lang.proofs.parsing.parse.Goals as goal

pub returns-clause-proper : goal.returns-clause-proper
returns-clause-proper c = parsed_proper c.parse_tokens.result _ c.parse_tokens.ensures (tokens_good c.args.tokens.now)
