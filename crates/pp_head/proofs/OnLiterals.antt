-- What a proof unfolds to compute `request_at` and `response_at` on a literal.
use Rattle.std.specs.Prelude.{⊤}
use Rattle.std.specs.Str.{is_utf8, chars}
use lib.Utf8.{encode}
use Rattle.httparse.proofs.OnLiterals.{httparse_on_literals}
use Rattle.pp_head.specs.Request.{find_request, request_at}
use Rattle.pp_head.specs.Response.{find_response, response_at}

unfoldable pub pp_head_on_literals : ⊤
unfolding httparse_on_literals is_utf8 chars encode find_request request_at find_response response_at
pp_head_on_literals = tt
