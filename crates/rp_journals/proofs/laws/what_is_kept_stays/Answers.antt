use Rattle.rp_journals.proofs.laws.what_is_kept_stays.Goals as goal
use Rattle.rp_journals.proofs.Staying.{parcels_stay, requests_stay, found_stays, asked_stays, outcome_stays, written_stays, admitted_stays, stood_stays}

pub returns : goal.returns
returns c = record {
  parcels = parcels_stay;
  requests = requests_stay;
  found = found_stays;
  asked = asked_stays;
  outcome = outcome_stays;
  written = written_stays;
  admitted = admitted_stays;
  stood = stood_stays;
}
