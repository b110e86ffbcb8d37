-- The bytes of a response (RFC 9112, section 4, with this project's fields).
use Rattle.std.specs.Prelude.{◌==◌, ◌++◌, Bool, List, [], ℕ, codes, decimal, if◌then◌else◌, length}

-- the reason phrase of a status (RFC 9110, section 15); none of a status that this project never answers
abbrev pub reason : ℕ → List ℕ
reason status =
    if status == 200 then codes "OK" else (if status == 400 then codes "Bad Request" else (if status == 404 then codes "Not Found" else (if status == 503 then codes "Service Unavailable" else [])))

-- the field that says that the connection closes
abbrev pub closing : Bool → List ℕ
closing close = if close then codes "Connection: close\r\n" else []

-- the head of a response with a body of n bytes of JSON
unfoldable pub response_head_text : ℕ → Bool → ℕ → List ℕ
response_head_text status close n =
    codes "HTTP/1.1 " ++ decimal status ++ codes " " ++ reason status ++ codes "\r\nContent-Type: application/json\r\nContent-Length: " ++ decimal n ++ codes "\r\n" ++ closing close ++ codes "\r\n"

-- a response: its head and its body
abbrev pub response_text : ℕ → Bool → List ℕ → List ℕ
response_text status close body = response_head_text status close (length body) ++ body

-- the interim response that asks for the body
abbrev pub continue_text : List ℕ
continue_text = codes "HTTP/1.1 100 Continue\r\n\r\n"
