use Rattle.pp_turn_law.proofs.Headlines.{have_headline, served_headline}
use Rattle.pp_turn_law.specs.Headline.{LawfulLogsHaveTheHeadline}
use Rattle.pp_turn_law.proofs.living.served_lives_have_the_headline.Goals as goal

pub returns : goal.returns
returns c =
    let laws : LawfulLogsHaveTheHeadline = have_headline c.sent_stands_in_the_log.ensures.stands c.passed_is_one_whole_response.ensures.so_far c.passed_is_one_whole_response.ensures.whole in
    record { laws = laws; served = served_headline c.served_lives_are_lawful.ensures.lawful laws }
