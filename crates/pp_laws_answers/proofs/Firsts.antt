-- The law: along a log it is known whose response comes on each connection, and each phase that is done keeps that.
use Rattle.std.proofs.Common.{◌≡◌, refl, ℕ, true, ◌==◌, List, [], ◌∷◌, ◌++◌, length, Option, Some, None, sym, subst, ap, ◌∙◌, append_assoc}
use Rattle.std.proofs.lemmas.List.{append-nil}
use Rattle.pp_law.specs.After.{after}
use Rattle.pp_law.specs.Connections.{exchange, is_exchange, is_outstanding}
use Rattle.pp_law.specs.Lawful.{Lawful}
use Rattle.pp_law.specs.Lists.{Bytes}
use Rattle.pp_law.specs.Permits.{IsPermitted}
use Rattle.pp_law.specs.Responses.{got}
use Rattle.pp_law.specs.State.{State, Answer, Conn, Exchange, Term, start}
use Rattle.pp_laws.proofs.Lists.{in_find}
use Rattle.pp_laws.proofs.Sound.{first_of}
use Rattle.pp_laws.proofs.Tests.{number_same, same_number}
use Rattle.pp_laws.specs.Runs.{IsIn, state_after}
use Rattle.pp_laws_lines.proofs.Lined.{Heads, IsPlain, Lined, facts_of}
use Rattle.pp_laws_lines.proofs.LinedHeads.{got-lined}
use Rattle.pp_laws_lines.proofs.LinedTurns.{come_to-lined}
use Rattle.pp_laws_lines.proofs.Stands.{Since}
use Rattle.pp_laws_lines.proofs.Stream.{Inv, asked_step, first, got_grown, got_over, is_plain, plain, quiet_step}
use Rattle.pp_laws_pool.proofs.Along.{after_all-append, back_from}
use Rattle.pp_laws_room.proofs.Coming.{by_coming}
use Rattle.pp_laws_turn.proofs.Lifts.{obeying}
use Rattle.pp_obeys.specs.Obeys.{Obeys}
use Rattle.pp_world.specs.Log.{Log}
use Rattle.pp_world.specs.declared.happening.Happening.{Happening}
use Rattle.pp_world.specs.declared.happening.Happening.TheVariants.{Asked, Got}
use Rattle.pp_laws_answers.specs.Answers.{AnswersAreToFirsts, IsToFirst}

-- ---- along a log

-- whoever it is whose response comes
record Behind (terms : List Term) (log : Log) (s : State) : Type 0 where
  firsts : ℕ → Option ℕ
  inv : Inv terms log firsts s

got_step : (terms : List Term) (log : Log) (m : ℕ) (bytes : Bytes) (s : State) → Behind terms log s → Behind terms (log ++ Got m bytes ∷ []) (after s (Got m bytes))
got_step terms log m bytes s w =
    let r = got-lined (length bytes) m bytes s (is_plain terms (log ++ Got m bytes ∷ []) s.top w.firsts) (got_grown terms log w.firsts m bytes s w.inv) in
    record { firsts = r.firsts; inv = got_over terms log w.firsts r.firsts m bytes s w.inv r.lines }

step : (terms : List Term) (log : Log) (h : Happening) → IsPermitted (state_after terms log) h → Behind terms log (state_after terms log) → Behind terms (log ++ h ∷ []) (after (state_after terms log) h)
step terms log (Asked m bytes) permitted w = record { firsts = w.firsts; inv = asked_step terms log w.firsts m bytes permitted w.inv }
step terms log (Got m bytes) permitted w = got_step terms log m bytes (state_after terms log) w
step terms log h permitted w = record { firsts = w.firsts; inv = quiet_step terms log w.firsts h (state_after terms log) tt permitted w.inv }

along : (terms : List Term) (front log : Log) → Lawful terms (front ++ log) → Behind terms front (state_after terms front) → Behind terms (front ++ log) (state_after terms (front ++ log))
along terms front [] lawful now = subst (λ (l : Log). Behind terms l (state_after terms l)) (sym (append-nil front)) now
along terms front (h ∷ log) lawful now =
    let joined : (front ++ h ∷ []) ++ log ≡ front ++ h ∷ log = append_assoc front (h ∷ []) log in
    let whole : Lawful terms ((front ++ h ∷ []) ++ log) = subst (λ (l : Log). Lawful terms l) (sym joined) lawful in
    let next : Behind terms (front ++ h ∷ []) (state_after terms (front ++ h ∷ [])) = subst (λ (s : State). Behind terms (front ++ h ∷ []) s) (sym (after_all-append (start terms) front (h ∷ []))) (step terms front h (back_from (start terms) front (h ∷ log) lawful).0 now) in
    subst (λ (l : Log). Behind terms l (state_after terms l)) joined (along terms (front ++ h ∷ []) log whole next)

behind : (terms : List Term) (log : Log) → Lawful terms log → Behind terms log (state_after terms log)
behind terms log lawful = along terms [] log lawful (record { firsts = λ n. None; inv = first terms (λ n. None) })

-- ---- the first of a line

to_first : (s : State) (o : Option ℕ) (k : Conn) (line : List ℕ) → k.line ≡ line → Heads o s.exchanges k → IsToFirst s k
to_first s o k [] is w = absurd (let both : None ≡ Some w.number = sym (ap first_of is) ∙ w.first in cc both)
to_first s o k (n ∷ others) is w = record { number = n; others = others; line = is; whole = whole }
  where
    it : n ≡ w.number
    it = let both : Some n ≡ Some w.number = sym (ap first_of is) ∙ w.first in cc both

    whole : (e : Exchange) → exchange s n ≡ Some e → is_outstanding e ≡ true
    whole e there =
        let found = in_find (is_exchange n) e s.exchanges there in
        ap (λ m. m == length e.text) (w.out e found.0 (same_number e.number n found.1 ∙ it)) ∙ number_same (length e.text)

-- the lines of each state that a lawful log may go on as from, by whoever it is whose response comes
pub record LinedBy (s : State) : Type 0 where
  pub since : Since
  pub is_plain : IsPlain since
  pub lines : Lined since s

pub first_there : (s : State) (by : LinedBy s) (k : Conn) (a : Answer) → IsIn k s.conns → k.answer ≡ Some a → IsToFirst s k
first_there s by k a i is = to_first s (by.since.firsts k.number) k k.line refl ((facts_of by.lines).answers k a i is (λ but. none_some (sym by.is_plain.but ∙ but)))
  where
    none_some : None ≡ Some k.number → ⊥
    none_some both = cc both

-- it stays so, however much is read of a connection
pub got_lined : (more n : ℕ) (bytes : Bytes) (s : State) → LinedBy s → LinedBy (got more n bytes s)
got_lined more n bytes s by =
    let r = got-lined more n bytes s by.is_plain by.lines in
    record { since = record by.since { firsts = r.firsts }; is_plain = record { gone = by.is_plain.gone; but = by.is_plain.but; kept = by.is_plain.kept }; lines = r.lines }

pub lined_on : (terms : List Term) (s : State) (log : Log) → Obeys terms s log → LinedBy s
lined_on terms s log obeys = record { since = at; is_plain = plainly; lines = obeying (Lined at) (by_coming (Lined at) (λ p t h. come_to-lined p t plainly h)) terms s log obeys w.inv.lines }
  where
    w : Behind terms log (state_after terms log)
    w = behind terms log obeys.lawful

    at : Since
    at = plain terms log (state_after terms log).top w.firsts

    plainly : IsPlain at
    plainly = is_plain terms log (state_after terms log).top w.firsts

pub answers_to_firsts : AnswersAreToFirsts
answers_to_firsts terms s log obeys k a i is = first_there s (lined_on terms s log obeys) k a i is
