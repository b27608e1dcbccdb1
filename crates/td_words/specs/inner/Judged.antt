-- What is said of a message or of a suite that no line can have. This project's own.
use Rattle.std.specs.Prelude.{ℕ, List}
use Rattle.td_plan.specs.declared.words.WordFault.{WordFault}
use Rattle.td_plan.specs.declared.words.WordFault.TheVariants.{BadMessage, BadSuite}
use Rattle.td_words.specs.PlanWords.{message_said, suite_said}

-- by what td_plan finds wrong with them
abbrev pub said_of : WordFault → List ℕ
said_of BadMessage = message_said
said_of BadSuite = suite_said
