pub mod ReadersStay
