-- Closings may come.
use Rattle.std.proofs.Common.{◌≡◌, ◌≤◌, refl, sym, ◌∙◌, subst, ℕ, false, find, length, List, [], ◌∷◌, Some, inl, inr, arith}
use Rattle.pp_cache_law.proofs.Numbers.{some_is}
use Rattle.pp_turns_law.specs.Sides.{AreOrderly, IsOrderly}
use Rattle.pp_rests_law.specs.Closing.{ClosingsMayCome, NoneIsRefused}
use Rattle.pp_law.specs.Connections.{exchange, is_client, is_exchange}
use Rattle.pp_law.specs.State.{State, Client, Conn, Exchange, Term}
use Rattle.pp_laws.proofs.Lists.{in_find}
use Rattle.pp_laws.specs.Runs.{IsIn}
use Rattle.pp_laws_coming.proofs.Laws.{asks_told}
use Rattle.pp_laws_coming.specs.Coming.{IsToldOn}
use Rattle.pp_laws_turn.proofs.Laws.{sound_turns}
use Rattle.pp_laws_turn.specs.SoundTurn.{HasAsker, IsSoundTurn}
use Rattle.pp_obeys.specs.Obeys.{Obeys}
use Rattle.pp_states_law.specs.Charges.{GoesOn}
use Rattle.pp_states_law.specs.Lines.{AllGo}
use Rattle.pp_states_law.specs.Losses.{IsComing}
use Rattle.pp_world.specs.Log.{Log}

all_orderly : (ks : List Conn) → ((k : Conn) → IsIn k ks → IsOrderly k) → AreOrderly ks
all_orderly [] each = tt
all_orderly (k ∷ ks) each = (each k (inl refl), all_orderly ks (λ j i. each j (inr i)))

shorter : (n : ℕ) → n ≤ 8 → n ≤ 1024
shorter n few = omega (arith, few)

module _ (terms : List Term) (s : State) (log : Log) (obeys : Obeys terms s log) (none : NoneIsRefused s) where
  sound : IsSoundTurn s
  sound = sound_turns terms s log obeys

  told_on : IsToldOn s
  told_on = asks_told terms s log obeys

  there : (n : ℕ) (e : Exchange) → exchange s n ≡ Some e → IsIn e s.exchanges
  there n e is = (in_find (is_exchange n) e s.exchanges is).0

  here : (n : ℕ) (c : Client) → find (is_client n) s.clients ≡ Some c → IsIn c s.clients
  here n c is = (in_find (is_client n) c s.clients is).0

  goes : (n : ℕ) (e : Exchange) → exchange s n ≡ Some e → (m : ℕ) (c : Client) → e.asker ≡ Some m → find (is_client m) s.clients ≡ Some c → GoesOn c
  goes n e is m c asks at =
      let asker : HasAsker s e m = sound.askers e m (there n e is) asks in
      let same : asker.asker ≡ c = some_is asker.asker c (sym asker.there ∙ at) in
      let going : c.is_closing ≡ false = subst (λ (d : Client). d.is_closing ≡ false) same asker.going in
      record { going = going; given = none c (here m c at) going }

  comes : (n : ℕ) (e : Exchange) → exchange s n ≡ Some e → (m : ℕ) (c : Client) → e.asker ≡ Some m → find (is_client m) s.clients ≡ Some c → IsComing c
  comes n e is m c asks at = (told_on.told e m c (there n e is) asks at).coming

  go : AllGo s
  go = record { going = goes; coming = comes }

pub closings_may : ClosingsMayCome
closings_may terms s log obeys none = record {
  apart = (sound_turns terms s log obeys).apart.conns;
  orderly = all_orderly s.conns (λ k i. record { closed = (sound_turns terms s log obeys).closed k i; few = shorter (length k.line) ((sound_turns terms s log obeys).bounded.lines k i) });
  go = go terms s log obeys none;
}
