-- What one read of a connection to an origin brings keeps it.
use Rattle.std.proofs.Common.{◌≡◌, refl, ℕ, zero, suc, ◌||◌, Option, Some, None, sym, ap, ◌∙◌}
use Rattle.pp_target.specs.Key.{text_of}
use Rattle.pp_text.specs.Bytes.{is_empty}
use Rattle.pp_law.specs.Connections.{conn, is_conn}
use Rattle.pp_law.specs.Lists.{Bytes}
use Rattle.pp_law.specs.OwnHeads.{key_of}
use Rattle.pp_law.specs.Responses.{Piece, body_piece, got, head_piece, next_piece}
use Rattle.pp_law.specs.Stages.{filled_of}
use Rattle.pp_law.specs.State.{State, Answer, Conn}
use Rattle.pp_laws.specs.Runs.{IsIn}
use Rattle.pp_laws.proofs.Lists.{in_find}
use Rattle.pp_laws.proofs.Bodies.{in_first}
use Rattle.pp_laws.proofs.Pieces.{front_by, next_piece-sound}
use Rattle.pp_laws.proofs.Sound.{Since, Sound, facts_of as sound_facts, first_of}
use Rattle.pp_laws_turn.proofs.Cases.{each_so, when}
use Rattle.pp_laws_turn.proofs.View.{Holds, facts_of, view}
use Rattle.pp_laws_coming.proofs.Bodies.{body_piece-comes}
use Rattle.pp_laws_coming.proofs.Came.{FrontIsReady, head_piece-comes}
use Rattle.pp_laws_coming.proofs.Facts.{Early, IsTold}
use Rattle.pp_laws_coming.proofs.Ready.{OfKey}

-- ---- one piece behind the other

-- where no answer is under way
front_ready : {b : Since} (k : Conn) (s : State) → k.answer ≡ None → b.excepts ≡ None → IsIn k s.conns → Sound b s → Holds Early s → FrontIsReady k s
front_ready {b} k s quiet excepts there was h e front = (placed, keyed)
  where
    f : IsIn e s.exchanges × (first_of k.line ≡ Some e.number)
    f = front_by s k.line e front

    lined : IsIn e.number k.line
    lined = in_first e.number k.line f.1

    placed : e.place ≡ None → ⊥
    placed none = let at : e.place ≡ Some k.number = (sound_facts was).placed k e there f.0 lined in let both : None ≡ Some k.number = sym none ∙ at in cc both

    keyed : OfKey e (view s)
    keyed n c x asks i is j follows = (bound, key)
      where
        told : IsTold s.instances e c
        told = (facts_of h).told e n c f.0 i asks is (λ none. cc none)

        bound : filled_of e ≡ None → ⊥
        bound fills =
            let to = told.bound fills x j follows in
            let w = (sound_facts was).brings k e to.to there f.0 lined to.is (λ eq. let none : None ≡ Some e.number = sym excepts ∙ eq in cc none) in
            let both : None ≡ Some w.answer = sym quiet ∙ w.is in
            cc both

        key : x.key ≡ key_of e
        key =
            let w = (sound_facts was).callers.follows c x.id i follows.source in
            let one : Some w.key ≡ Some e.key = sym w.asks ∙ told.key in
            let its : w.key ≡ e.key = cc one in
            w.same_key x j refl ∙ ap text_of its

next_piece-comes : {b : Since} (k : Conn) (bytes : Bytes) (s : State) → b.excepts ≡ None → IsIn k s.conns → Sound b s → Holds Early s → Holds Early (next_piece k bytes s).state
next_piece-comes k bytes s excepts there was h = by k.answer refl
  where
    by : (answer : Option Answer) → k.answer ≡ answer → Holds Early (elim answer as (λ c. Piece) [ Some a ↦ body_piece k a bytes s | None ↦ head_piece k bytes s ]).state
    by None quiet = head_piece-comes k bytes s (front_ready k s quiet excepts there was h) h
    by (Some a) is = body_piece-comes k a bytes s h

pub got-comes : {b : Since} (more n : ℕ) (bytes : Bytes) (s : State) → b.excepts ≡ None → Sound b s → Holds Early s → Holds Early (got more n bytes s)
unfolding got
got-comes zero n bytes s none was h = h
got-comes (suc more) n bytes s none was h =
    each_so (conn s n) (λ isnt. h)
    (λ k found.
    let there : IsIn k s.conns = (in_find (is_conn n) k s.conns found).0 in
    when (k.is_closing || is_empty bytes) h (got-comes more n (next_piece k bytes s).rest (next_piece k bytes s).state none (next_piece-sound k bytes s none there was) (next_piece-comes k bytes s none there was h)))
