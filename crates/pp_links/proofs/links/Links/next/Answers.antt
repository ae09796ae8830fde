use Rattle.std.proofs.Common.{sym, ◌∙◌}
use Rattle.std.proofs.lemmas.Bool.{leb-true}
use Rattle.pp_links.proofs.Opening.{next_linked}
use Rattle.pp_links.proofs.Waiting.{away_linked, newcomer_open, turned_away}
use Rattle.pp_links.proofs.links.Links.next.Goals as goal

pub returns-in_default-clause-linked : goal.returns-in_default-clause-linked
returns-in_default-clause-linked g c = next_linked _ _ _ _ _ _ (sym c.newcomer.ensures ∙ c.in_default.is) c.requires c.next-event.ensures.told c.next-event.ensures.number c.next-event.ensures.top

pub close-requires : goal.close-requires
close-requires g c = record { is_there = newcomer_open _ _ _ (sym c.newcomer.ensures ∙ c.in-Some.is) c.next-event.ensures.told }

pub returns-then-is_full-clause-none : goal.returns-then-is_full-clause-none
returns-then-is_full-clause-none g c = turned_away _ _ _ _ _ _ _ (sym c.newcomer.ensures ∙ c.in-Some.is) (leb-true _ _ (sym c.is_full.ensures ∙ c.if-is_full.true)) c.next-event.ensures.wanted c.next-event.ensures.number c.next-event.ensures.top c.next-event.ensures.told c.close.ensures.told c.close.ensures.top

pub returns-then-is_full-clause-linked : goal.returns-then-is_full-clause-linked
returns-then-is_full-clause-linked g c = away_linked _ _ _ _ _ c.requires (turned_away _ _ _ _ _ _ _ (sym c.newcomer.ensures ∙ c.in-Some.is) (leb-true _ _ (sym c.is_full.ensures ∙ c.if-is_full.true)) c.next-event.ensures.wanted c.next-event.ensures.number c.next-event.ensures.top c.next-event.ensures.told c.close.ensures.told c.close.ensures.top)

pub returns-clause-linked : goal.returns-clause-linked
returns-clause-linked g c = rw c.join.ensures (next_linked _ _ _ _ _ _ (sym c.newcomer.ensures ∙ c.in-Some.is) c.requires c.next-event.ensures.told c.next-event.ensures.number c.next-event.ensures.top)
