-- `quoted_words_are_read`: what it answers.
use Rattle.td_wbread.proofs.Quoted.{quoted_words_read}
use Rattle.td_wbread.proofs.laws.quoted_words_are_read.Goals as goal

pub returns : goal.returns
returns c = quoted_words_read
