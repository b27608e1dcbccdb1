-- `words_of_a_folder_ask_for_its_files`: what it answers.
use Rattle.td_words.proofs.FolderAsking.{folder_words_ask}
use Rattle.td_words.proofs.laws.words_of_a_folder_ask_for_its_files.Goals as goal

pub returns : goal.returns
returns c = folder_words_ask
