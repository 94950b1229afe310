-- The bytes of a reply (RFC 9112, status line, field lines, message body; the choice of fields is ours).
use Rattle.std.specs.Prelude.{ℕ, [], ◌∷◌, ◌++◌, length, codes}
use Rattle.std.specs.Fmt.{decimal}
use Rattle.vet_base.specs.Words.{Text}
use Rattle.vet_requests.specs.Status.{status_number, status_phrase}
use Rattle.vet_requests.specs.declared.content_type.ContentType.{ContentType}
use Rattle.vet_requests.specs.declared.content_type.ContentType.TheVariants as content
use Rattle.vet_requests.specs.declared.reply.Reply.{Reply}
use Rattle.vet_requests.specs.declared.status.Status.{Status}
use Rattle.vet_requests.specs.declared.status.Status.TheVariants as status

-- the value of the field `Content-Type`
abbrev pub type_text : ContentType → Text
type_text content.Text = codes "text/plain; charset=utf-8"
type_text content.Csv = codes "text/csv; charset=utf-8"
type_text content.Toml = codes "application/toml"

-- the line of a status
abbrev pub status_line : Status → Text
status_line s = codes "HTTP/1.1 " ++ (decimal (status_number s) ++ (codes " " ++ (status_phrase s ++ codes "\r\n")))

-- the line of a field
abbrev pub field_line : Text → Text → Text
field_line name value = name ++ (codes ": " ++ (value ++ codes "\r\n"))

-- the line of the methods that a target has, if any are given
abbrev pub allow_line : Text → Text
allow_line [] = []
allow_line (m ∷ methods) = field_line (codes "Allow") (m ∷ methods)

-- the head of a reply whose body has this many bytes; the empty line ends it
abbrev pub reply_head : Status → ContentType → Text → ℕ → Text
reply_head s kind methods bytes =
    status_line s
    ++ (field_line (codes "Content-Type") (type_text kind)
    ++ (field_line (codes "Content-Length") (decimal bytes)
    ++ (allow_line methods
    ++ (field_line (codes "Connection") (codes "close")
    ++ codes "\r\n"))))

-- the reply with a body
abbrev pub reply_with : Status → ContentType → Text → Text → Reply
reply_with s kind methods body = record { status = s; bytes = reply_head s kind methods (length body) ++ body }

-- the reply with lines for people
abbrev pub text_reply : Status → Text → Reply
text_reply s body = reply_with s content.Text [] body

-- the fixed body of a status, which may be empty
abbrev pub fixed_body : Status → Text
fixed_body status.BadRequest = codes "bad request\n"
fixed_body status.NotFound = codes "not found\n"
fixed_body status.MethodNotAllowed = codes "method not allowed\n"
fixed_body status.ContentTooLarge = codes "too large\n"
fixed_body _ = []

-- the reply of a status with its fixed body
abbrev pub plain_reply : Status → Reply
plain_reply s = text_reply s (fixed_body s)

-- the reply to a method that a target lacks, with the methods that it has
abbrev pub not_allowed : Text → Reply
not_allowed methods = reply_with status.MethodNotAllowed content.Text methods (fixed_body status.MethodNotAllowed)
