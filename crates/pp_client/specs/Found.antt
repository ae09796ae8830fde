-- A request whose head was found at the front of some bytes.
use Rattle.std.specs.Prelude.{Option, Some, None}
use Rattle.pp_framing.specs.Framing.{request_rule_of}
use Rattle.pp_head.specs.Read.{Read, Whole, TooLong, Bad, More}
use Rattle.pp_head.specs.Request.{Request}
use Rattle.pp_client.specs.Bodies.{body_by}
use Rattle.pp_client.specs.declared.heard.Found.{Found}

abbrev pub found_in : Read Request → Option Found
found_in (Whole request) = Some (record { len = request.length; body = body_by (request_rule_of request.fields) })
found_in TooLong = None
found_in Bad = None
found_in More = None
