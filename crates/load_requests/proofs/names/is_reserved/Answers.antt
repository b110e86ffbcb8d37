use Rattle.load_requests.proofs.names.is_reserved.Goals as goal

pub returns : goal.returns
returns c = c.is_any.ensures
