-- `read_call`: its clauses, if the folder isn't read, and if it is.
use Rattle.std.proofs.Common.{map, string_bytes}
use Rattle.std.proofs.lemmas.Result.{IfOk-weaker}
use Rattle.td_words.specs.Asked.{request_words}
use Rattle.td_tool.specs.FolderFiles.{AskFound}
use Rattle.td_tool.proofs.FolderCalls.{which_read, which_unread}
use Rattle.td_tool.proofs.folder_files.read_call.Goals as goal

pub returns-in-Err-clause-simulate : goal.returns-in-Err-clause-simulate
returns-in-Err-clause-simulate g c asks = c.in-Err.ensures.memory asks.0

pub returns-in-Err-clause-check : goal.returns-in-Err-clause-check
returns-in-Err-clause-check g c w asks = c.in-Err.ensures.memory asks.0.0

pub returns-in-Err-clause-track : goal.returns-in-Err-clause-track
returns-in-Err-clause-track g c w asks = c.in-Err.ensures.memory asks.0.0

pub returns-in-Err-clause-waves : goal.returns-in-Err-clause-waves
returns-in-Err-clause-waves g c w asks = c.in-Err.ensures.memory asks.0.0

pub returns-in-Err-clause-plan : goal.returns-in-Err-clause-plan
returns-in-Err-clause-plan g c w asks = c.in-Err.ensures.memory asks.0.0

pub returns-in-Err-clause-run : goal.returns-in-Err-clause-run
returns-in-Err-clause-run g c w asks = c.in-Err.ensures.memory asks.0.0

pub returns-in-Err-clause-desk : goal.returns-in-Err-clause-desk
returns-in-Err-clause-desk g c w asks = c.in-Err.ensures.memory asks.0.0

pub returns-in-Err-clause-said : goal.returns-in-Err-clause-said
returns-in-Err-clause-said g c =
    which_unread (g.T.Texts.can_be c.args.texts.now) (map string_bytes c.args.words.now)
    c.in-Err.fault c.in-Err.ensures.memory

pub returns-in-Ok-clause-check : goal.returns-in-Ok-clause-check
returns-in-Ok-clause-check g c w asks = c.read_words.ensures.check w asks

pub returns-in-Ok-clause-track : goal.returns-in-Ok-clause-track
returns-in-Ok-clause-track g c w asks =
    c.read_words.ensures.track w (asks.0, asks.1 c.in-Ok.present c.in-Ok.ensures.found)

pub returns-in-Ok-clause-waves : goal.returns-in-Ok-clause-waves
returns-in-Ok-clause-waves g c w asks =
    c.read_words.ensures.waves w (asks.0, asks.1 c.in-Ok.present c.in-Ok.ensures.found)

pub returns-in-Ok-clause-plan : goal.returns-in-Ok-clause-plan
returns-in-Ok-clause-plan g c w asks =
    c.read_words.ensures.plan w (asks.0, asks.1 c.in-Ok.present c.in-Ok.ensures.found)

pub returns-in-Ok-clause-run : goal.returns-in-Ok-clause-run
returns-in-Ok-clause-run g c w asks =
    c.read_words.ensures.run w (asks.0, asks.1 c.in-Ok.present c.in-Ok.ensures.found)

pub returns-in-Ok-clause-desk : goal.returns-in-Ok-clause-desk
returns-in-Ok-clause-desk g c w asks =
    c.read_words.ensures.desk w (asks.0, asks.1 c.in-Ok.present c.in-Ok.ensures.found)

pub returns-in-Ok-clause-said : goal.returns-in-Ok-clause-said
returns-in-Ok-clause-said g c =
    which_read (g.T.Texts.can_be c.args.texts.now) (map string_bytes c.args.words.now)
    c.in-Ok.present c.in-Ok.ensures.found c.read_words.result c.read_words.ensures.track_said
    c.read_words.ensures.plan_said c.read_words.ensures.run_said
    c.read_words.ensures.check_said
    c.read_words.ensures.track_lacking c.read_words.ensures.waves_lacking
    c.read_words.ensures.plan_lacking

pub returns-in-Ok-clause-only : goal.returns-in-Ok-clause-only
returns-in-Ok-clause-only g c =
    IfOk-weaker c.read_words.result _
    (λ call. AskFound (g.T.Texts.can_be c.args.texts.now) (map string_bytes c.args.words.now)
    (request_words call.request))
    (λ call asks. record {
      present = c.in-Ok.present;
      can = c.in-Ok.ensures.found;
      asks = asks;
    })
    c.read_words.ensures.only
