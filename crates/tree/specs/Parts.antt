-- THE PARTS THAT ELEMENTS PLAY in what a message says, by number. To be believed; definitions only. An element of no part has the number 0.
use Rattle.std.specs.Prelude.{ℕ}

-- the header's declarations
abbrev pub message_count : ℕ
message_count = 1

abbrev pub message_sum : ℕ
message_sum = 2

-- a batch, what it declares, and its terms: scheme, sequence and collection date
abbrev pub batch : ℕ
batch = 3

abbrev pub batch_count : ℕ
batch_count = 4

abbrev pub batch_sum : ℕ
batch_sum = 5

abbrev pub scheme : ℕ
scheme = 6

abbrev pub sequence : ℕ
sequence = 7

abbrev pub collection_date : ℕ
collection_date = 8

-- a transaction, its amount, and its texts
abbrev pub transaction : ℕ
transaction = 9

abbrev pub end_to_end : ℕ
end_to_end = 10

abbrev pub amount : ℕ
amount = 11

abbrev pub mandate : ℕ
mandate = 12

abbrev pub signature_date : ℕ
signature_date = 13

abbrev pub debtor_bank : ℕ
debtor_bank = 14

abbrev pub debtor_name : ℕ
debtor_name = 15

abbrev pub debtor_account : ℕ
debtor_account = 16

abbrev pub remittance : ℕ
remittance = 17

-- an address of a creditor or a debtor, and what its mix is made of: street, number or post code; town; country; line
abbrev pub address : ℕ
address = 18

abbrev pub address_detail : ℕ
address_detail = 19

abbrev pub town : ℕ
town = 20

abbrev pub country : ℕ
country = 21

abbrev pub address_line : ℕ
address_line = 22

-- after the last
abbrev pub parts_end : ℕ
parts_end = 23
