-- What the fields of a head ask of the connection (RFC 9112, section 9.6; RFC 9110, section 10.1.1).
use Rattle.std.specs.Prelude.{◌==◌, ◌&&◌, ◌||◌, not, Bool, true, codes}
use Rattle.http_wire.specs.declared.head.BodyLength.{BodyLength}
use Rattle.http_wire.specs.declared.head.BodyLength.TheVariants.{Fixed, Chunked}
use Rattle.http_wire.specs.declared.head.Head.{Head}
use Rattle.http_wire.specs.Fields.{has_field}

-- the connection closes after the response: to a request of HTTP/1.0, or one that says so
abbrev pub closes : Head → Bool
closes head = head.minor == 0 || has_field (codes "connection") (codes "close") head.fields

-- the body has bytes, or comes in chunks
abbrev pub has_bytes : BodyLength → Bool
has_bytes (Fixed n) = not (n == 0)
has_bytes Chunked = true

-- the client waits for an interim response before it sends the body
abbrev pub expects_continue : Head → Bool
expects_continue head = head.minor == 1 && has_field (codes "expect") (codes "100-continue") head.fields && has_bytes head.body
