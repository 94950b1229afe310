-- What a run ensures of what was asked, told of what the words of its command ask for.
use Rattle.vetd_words.proofs.HelpLemmas.{asked_help, asked_wrong}
use Rattle.vetd_words.proofs.RunLemmas.{of_nothing, says_meant, spent_meant, stops_meant}
use Rattle.vetd_words.proofs.run.command_run.Goals as goal

pub returns-clause-says : goal.returns-clause-says
returns-clause-says g c =
    let asked = c.asked-asked in
    says_meant _ _ _ asked.result _ _ _ _ _ asked.ensures.found asked.ensures.refused c.run.ensures.memory
    c.run.ensures.says

pub returns-clause-part : goal.returns-clause-part
returns-clause-part g c =
    let asked = c.asked-asked in
    stops_meant _ _ _ asked.result _ _ _ _ _ asked.ensures.found asked.ensures.refused c.run.ensures.memory
    c.run.ensures.part

pub returns-clause-unread : goal.returns-clause-unread
returns-clause-unread g c = λ none.
    let asked = c.asked-asked in
    of_nothing _ _ asked.result asked.ensures.found none c.run.ensures.unread

pub returns-clause-unfailing : goal.returns-clause-unfailing
returns-clause-unfailing g c = λ none.
    let asked = c.asked-asked in
    of_nothing _ _ asked.result asked.ensures.found none c.run.ensures.unfailing

pub returns-clause-spent : goal.returns-clause-spent
returns-clause-spent g c = λ spent some.
    let asked = c.asked-asked in
    spent_meant _ asked.result _ asked.ensures.refused c.run.ensures.memory (c.run.ensures.spent spent) some

pub returns-clause-help : goal.returns-clause-help
returns-clause-help g c = λ asks.
    let asked = c.asked-asked in
    let h = c.run.ensures in
    asked_help _ asked.result c.run.result _ _ _ _ asked.ensures.clean asked.ensures.kinds h.silent h.memory h.help
    h.version asks

pub returns-clause-wrong : goal.returns-clause-wrong
returns-clause-wrong g c = λ nothing none.
    let asked = c.asked-asked in
    let h = c.run.ensures in
    of_nothing _ _ asked.result asked.ensures.found nothing
    (asked_wrong _ asked.result c.run.result _ _ _ _ asked.ensures.kinds h.silent h.memory h.wrong none)
