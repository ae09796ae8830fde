-- What is said leaves room: no more is left of it.
use Rattle.std.proofs.Common.{arith, ◌≤◌, ℕ, zero, suc, Bool, true, false, cond, drop, length, nat_lt, List, [], ◌∷◌}
use Rattle.std.specs.Prelude.{◌-◌}
use Rattle.pp_client.specs.Clients.{Client, said_by}
use Rattle.pp_client.specs.Replies.{Reply, body_said, ended, interim_left, is_said, said, stage_said}
use Rattle.pp_client.specs.Requests.{answered}
use Rattle.pp_client.specs.declared.reply.Begin.{Begin}
use Rattle.pp_client.specs.declared.reply.Begin.TheVariants.{Page, Instance, Passed}
use Rattle.pp_client.specs.declared.interim.Interim.TheVariants.{Left}
use Rattle.pp_client.specs.declared.reply.Stage.{Stage}
use Rattle.pp_client.specs.declared.reply.Stage.TheVariants.{Due, Begun}

abbrev Fit : List ℕ → Type 0
Fit text = length text ≤ 20480

less : (n : ℕ) (text : List ℕ) → Fit text → Fit (drop n text)
less zero text fits = fits
less (suc n) [] fits = fits
less (suc n) (b ∷ text) fits = less n text (omega (arith, fits))

body : (n : ℕ) (reply : Begin) (r : Reply) → Fit r.text → Fit (body_said n reply r).text
body n Page r fits = fits
body n (Instance id next to) r fits = fits
body n Passed r fits = fits

reply_short : (n : ℕ) (r : Reply) → Fit r.text → Fit (said n r).text
reply_short n r fits = by (nat_lt 0 (interim_left r.interim))
  where
    at : (stage : Stage) → Fit (stage_said n stage r).text
    at Due = fits
    at (Begun reply) = body (n - length r.text) reply (record r { text = drop n r.text }) (less n r.text fits)

    by : (b : Bool) → Fit (cond b (record r { interim = Left (interim_left r.interim - n) }) (stage_said n r.stage r)).text
    by true = fits
    by false = at r.stage

none : 0 ≤ 20480
none = omega (arith)

pub said_short : (n : ℕ) (c : Client) → Fit c.reply.text → Fit (said_by n c).reply.text
said_short n c fits = by (is_said (said n c.reply))
  where
    by : (b : Bool) → Fit (elim b as (λ t. Client) [ true ↦ record c { heard = answered c.heard; reply = ended (said n c.reply) } | false ↦ record c { reply = said n c.reply } ]).reply.text
    by true = none
    by false = reply_short n c.reply fits
