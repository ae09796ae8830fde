-- What a program may rest on that shows, step by step, that it obeys the law.
use Rattle.pp_obeys.specs.Calls.{CallsJoin, DonePhasesKeep, PermittedCallsKeep, StandingIsLawful}
use Rattle.pp_obeys.specs.Laws.{DoneGoesOn, FailuresAreCounted, PermittedGoesOn, SilentStepsGo}
use Rattle.pp_obeys.proofs.Calls.{keeps_more, keeps_silently, keeps_then}
use Rattle.pp_obeys.proofs.Obeying.{comes_before, life_goes_on, obeys_good, obeys_more, obeys_silently}

pub permitted_goes : PermittedGoesOn
permitted_goes terms s log h obeys may = obeys_more h obeys may

pub done_goes : DoneGoesOn
done_goes terms s log obeys done = obeys_silently obeys done

pub silent_go : SilentStepsGo
silent_go terms s t log h obeys goes may = let c = comes_before s t h (obeys_good obeys) goes may in record { may = c.may; leads = c.leads }

pub counted : FailuresAreCounted
counted terms s log h obeys awake may = life_goes_on s h awake may (obeys_good obeys)

-- ---- calls

pub standing : StandingIsLawful
standing life budget faults test log stands enough = (stands.at budget enough).obeys.lawful

pub permitted_keep : PermittedCallsKeep
permitted_keep old new before now h p q call rose step = keeps_more (λ l. h) call (λ l. rose) (λ l. step)

pub joined_keep : CallsJoin
joined_keep old mid new before between now p q r one two = keeps_then one two

pub done_keep : DonePhasesKeep
done_keep log n p q silent = keeps_silently log n silent
