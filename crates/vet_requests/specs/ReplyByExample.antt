-- Replies by example (ours).
use Rattle.std.specs.Prelude.{◌++◌, codes}
use Rattle.vet_base.specs.Words.{Text}

-- the reply to the first command
abbrev pub first_done : Text
first_done =
    codes "HTTP/1.1 200 OK\r\n"
    ++ (codes "Content-Type: text/plain; charset=utf-8\r\n"
    ++ (codes "Content-Length: 15\r\n"
    ++ (codes "Connection: close\r\n"
    ++ (codes "\r\n"
    ++ codes "done 1 moves 0\n"))))

-- the reply to a method that a project lacks
abbrev pub other_method : Text
other_method =
    codes "HTTP/1.1 405 Method Not Allowed\r\n"
    ++ (codes "Content-Type: text/plain; charset=utf-8\r\n"
    ++ (codes "Content-Length: 19\r\n"
    ++ (codes "Allow: GET, PUT\r\n"
    ++ (codes "Connection: close\r\n"
    ++ (codes "\r\n"
    ++ codes "method not allowed\n")))))

-- the reply to the method `HEAD`
abbrev pub head_alone : Text
head_alone =
    codes "HTTP/1.1 501 Not Implemented\r\n"
    ++ (codes "Content-Type: text/plain; charset=utf-8\r\n"
    ++ (codes "Content-Length: 0\r\n"
    ++ (codes "Connection: close\r\n"
    ++ codes "\r\n")))
