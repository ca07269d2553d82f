use Rattle.sfv_model.proofs.visits.EventsBeforeReach.{events_reach}
use Rattle.sfv_model.proofs.events_reach.Goals as goal

pub returns : goal.returns
returns c = events_reach
