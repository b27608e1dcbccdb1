-- `places_are_found`: what it answers.
use Rattle.td_explain.proofs.LineSpots.{bytes_are_exact, lines_are_exact}
use Rattle.td_explain.proofs.StanzaSpots.{no_more_are_found, stanzas_are_found}
use Rattle.td_explain.proofs.laws.places_are_found.Goals as goal

pub returns : goal.returns
returns c =
    record {
      lines = lines_are_exact;
      bytes = bytes_are_exact;
      stanzas = stanzas_are_found;
      no_more = no_more_are_found;
    }
